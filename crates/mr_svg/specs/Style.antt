-- How each sign is drawn, in a light and a dark scheme, and the heads of arrows.
use Rattle.std.specs.Prelude.{ℕ, List, ◌∷◌, [], ◌++◌, codes}

-- a line, ended by LF
abbrev pub line : List ℕ → List ℕ
line text = text ++ 10 ∷ []

-- THE STYLE of a document
abbrev pub style_text : List ℕ
style_text =
    line (codes "<style>")
    ++ line (codes "text{font:13px ui-monospace,Menlo,Consolas,DejaVu Sans Mono,monospace;white-space:pre;fill:#16181b}")
    ++ line (codes "path{fill:none;stroke-width:1.5;stroke:#16181b}")
    ++ line (codes ".paper{stroke:none;fill:#fff}")
    ++ line (codes ".row path{stroke:none;fill:#f2f4f6}")
    ++ line (codes ".lane path{stroke-width:2;stroke:#8a929b}")
    ++ line (codes ".step path{fill:#16181b;stroke:#fff}")
    ++ line (codes ".racing path{fill:#c11a20;stroke:#fff}")
    ++ line (codes ".stop path{stroke-width:2.5;fill:#fff}")
    ++ line (codes ".wake path{stroke-width:2;stroke-dasharray:2 3;marker-end:url(#wakes);stroke:#1a7f37}")
    ++ line (codes ".dependence path{stroke-width:2;marker-end:url(#depends);stroke:#0b57a4}")
    ++ line (codes ".machine-order path{stroke-width:2;stroke-dasharray:9 3 2 3;marker-end:url(#depends);stroke:#0b57a4}")
    ++ line (codes ".race path{stroke-width:2;stroke-dasharray:8 4;stroke:#c11a20}")
    ++ line (codes ".first-race path{stroke-width:4;stroke-dasharray:8 4;stroke:#c11a20}")
    ++ line (codes ".left-out path{stroke-dasharray:2 2;fill:#fff;stroke:#6b727a}")
    ++ line (codes ".left-out text{fill:#6b727a}")
    ++ line (codes ".title text{font-weight:bold}")
    ++ line (codes ".name text{font-weight:bold}")
    ++ line (codes ".note text{fill:#4d545c}")
    ++ line (codes "#wakes path{fill:none;stroke-dasharray:none;marker-end:none;stroke:#1a7f37}")
    ++ line (codes "#depends path{stroke:none;marker-end:none;fill:#0b57a4}")
    ++ line (codes "@media (prefers-color-scheme:dark){")
    ++ line (codes "text{fill:#f0f2f4}")
    ++ line (codes "path{stroke:#f0f2f4}")
    ++ line (codes ".paper{fill:#14171b}")
    ++ line (codes ".row path{fill:#1f242a}")
    ++ line (codes ".lane path{stroke:#7c858f}")
    ++ line (codes ".step path{fill:#f0f2f4;stroke:#14171b}")
    ++ line (codes ".racing path{fill:#ff7a72;stroke:#14171b}")
    ++ line (codes ".stop path{fill:#14171b}")
    ++ line (codes ".wake path{stroke:#63d47f}")
    ++ line (codes ".dependence path{stroke:#79b8ff}")
    ++ line (codes ".machine-order path{stroke:#79b8ff}")
    ++ line (codes ".race path{stroke:#ff7a72}")
    ++ line (codes ".first-race path{stroke:#ff7a72}")
    ++ line (codes ".left-out path{fill:#14171b;stroke:#98a1ab}")
    ++ line (codes ".left-out text{fill:#98a1ab}")
    ++ line (codes ".note text{fill:#b3bac2}")
    ++ line (codes "#wakes path{stroke:#63d47f}")
    ++ line (codes "#depends path{fill:#79b8ff}")
    ++ line (codes "}")
    ++ line (codes "</style>")
    ++ line (codes "<defs>")
    ++ line (
    codes "<marker id=\"wakes\" viewBox=\"0 0 10 10\" refX=\"18\" refY=\"5\" markerWidth=\"9\" "
    ++ codes "markerHeight=\"9\" markerUnits=\"userSpaceOnUse\" orient=\"auto\"><path d=\"M1 1L9 "
    ++ codes "5L1 9\"/></marker>"
    )
    ++ line (
    codes "<marker id=\"depends\" viewBox=\"0 0 10 10\" refX=\"18\" refY=\"5\" "
    ++ codes "markerWidth=\"9\" markerHeight=\"9\" markerUnits=\"userSpaceOnUse\" "
    ++ codes "orient=\"auto\"><path d=\"M0 0L10 5L0 10z\"/></marker>"
    )
    ++ line (codes "</defs>")
