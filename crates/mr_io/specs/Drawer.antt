-- Files in memory, of which chosen reads fail.
use Rattle.std.specs.Prelude.{List, Contains, find}
use Rattle.std.specs.Option.{option_map}
use Rattle.std.specs.Str.{bytes_eq}
use Rattle.mr_io.specs.Counts.{raised}
use Rattle.mr_io.specs.Files.{Contents}
use Rattle.mr_io.specs.declared.drawer.Drawer.{Drawer}
use Rattle.mr_io.specs.declared.drawer.File.{File}

-- a name holds the bytes of the first file of that name
abbrev pub contents_of : List File → Contents
contents_of files name = option_map (λ file. file.bytes) (find (λ file. bytes_eq file.name name) files)

-- the next read is one of those that fail
abbrev pub FailsNext : Drawer → Type 0
FailsNext d = Contains d.fails (raised d.calls)
