-- Laws of what the programs print.
use Rattle.std.proofs.Common.{◌≡◌, ap, ℕ, ◌<◌, false, eqb, List, length, take, get_or, min, ◌∙◌, ◌++◌, ◌+◌, add-one, arith, length-take, get_or-take}
use Rattle.std.proofs.lemmas.List.{get_or_default}
use Rattle.rules.specs.declared.Desk.{Desk}
use Rattle.rules.specs.Rules.{no_desk}
use Rattle.reports.specs.Lines.{entries_below, entries_text, desk_line, desks_below}

-- a set that is not empty is told by its 64 numbers
pub all_told : (set k : ℕ) → k ≡ 64 → eqb set 0 ≡ false → entries_below k set ≡ entries_text set
all_told set k e f = rw f (ap (λ j. entries_below j set) e)

-- one line more, of the desk at place k of the first n
pub line_put : (n k : ℕ) (ds : List Desk) (d : Desk) → k < length (take n ds) → d ≡ get_or (take n ds) k d → desks_below k ds ++ desk_line k d ≡ desks_below (k + 1) ds
line_put n k ds d within is =
    let short : length (take n ds) ≡ min n (length ds) = length-take n ds in
    rw (add-one k) (ap (λ x. desks_below k ds ++ desk_line k x) (is ∙ get_or-take n ds k d (omega arith) ∙ get_or_default ds k d no_desk (omega arith)))
