use Rattle.mr_two_orders.proofs.Common.{◌≡◌, ◌∙◌, ◌++◌, ℕ, ap, ap₂, List, subst, sym, Pair, Group, ranked, Seen, seen, IsRising, by_rust}
use Rattle.mr_two_orders.specs.Texts.{groups_text}
use Rattle.mr_two_orders.proofs.PairLaws.{predicted_rises}
use Rattle.mr_two_orders.proofs.text.two_orders.Goals as goal

pub push_groups-requires-clause-rising : goal.push_groups-requires-clause-rising
push_groups-requires-clause-rising c =
    subst IsRising (sym c.requires.machine) (predicted_rises (seen c.args.shown.now).feet)

pub push_groups-requires-clause-rust : goal.push_groups-requires-clause-rust
push_groups-requires-clause-rust c =
    let s = seen c.args.shown.now in
    c.with_races-listed.ensures ∙ ap (λ (pairs : List Pair). record s { races = pairs }) c.requires.rust

pub returns : goal.returns
returns c =
    let s = seen c.args.shown.now in
    let listed : seen c.with_races-listed.result ≡ by_rust s =
    c.with_races-listed.ensures ∙ ap (λ (pairs : List Pair). record s { races = pairs }) c.requires.rust in
    let rust = c.as_slice-5.ensures.value ∙ c.in_ok-rust_groups.ensures ∙ ap ranked listed in
    let machine = c.as_slice-6.ensures.value ∙ c.in_ok-machine_groups.ensures in
    c.in_ok-push_groups.ensures
    ∙ ap (λ (xs : List ℕ). xs ++ groups_text s c.as_slice-5.result.now c.as_slice-6.result.now) c.new-out.ensures.items
    ∙ ap₂ (λ (xs ys : List Group). groups_text s xs ys) rust machine
