use Rattle.std.proofs.Common.{◌≡◌, ◌∙◌, sym, refl, Ok, length, replicate}
use Rattle.rules.specs.declared.TheConstants.Settings.{MOST_NOTES}
use Rattle.rules.proofs.NewSources.{fresh_sizes}
use Rattle.floors.specs.Floors.{opening, area_opened}
use Rattle.floors.proofs.Shapes.{opened_in_shape}
use Rattle.floors.proofs.Floor.open.Goals as goal

pub returns-in-Ok-clause-area : goal.returns-in-Ok-clause-area
returns-in-Ok-clause-area c =
    let opens : opening c.args.area.now c.args.fields ≡ Ok c.in-Ok.settings = sym c.opening.ensures.is ∙ c.in-Ok.is in
    let cleared : replicate (length c.args.area.now) 0 ≡ replicate MOST_NOTES 0 = rw (c.opening.ensures.room (rw c.in-Ok.is refl)) refl in
    let given : area_opened c.args.area.now (opening c.args.area.now c.args.fields) ≡ replicate MOST_NOTES 0 = rw opens refl in
    c.clear.ensures ∙ cleared ∙ sym given

pub returns-in-Ok-clause-shape : goal.returns-in-Ok-clause-shape
returns-in-Ok-clause-shape c =
    λ _. rw c.fresh.ensures (opened_in_shape c.in-Ok.settings c.clear.new.area (c.opening.ensures.within c.in-Ok.settings c.in-Ok.is))

pub returns-in-Ok-clause-none_new : goal.returns-in-Ok-clause-none_new
returns-in-Ok-clause-none_new c = λ _. rw c.fresh.ensures (fresh_sizes c.in-Ok.settings)
