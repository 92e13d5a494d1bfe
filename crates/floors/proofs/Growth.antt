-- All sets together grow by the new sources that the answers tell. Assumes nothing.
use Rattle.std.proofs.Common.{◌≡◌, refl, ◌+◌, ◌≤◌, Bool, ◌&&◌, Result, Ok, Err, is_ok, OnOk}
use Rattle.std.specs.Prelude.{⊤}
use Rattle.sets.specs.Counting.{bit}
use Rattle.rules.specs.declared.Action.{Action}
use Rattle.rules.specs.declared.Refusal.{Refusal}
use Rattle.rules.specs.Rules.{State, answer, next}
use Rattle.rules.specs.NewSources.{adds_source, sum, desk_sizes, HasSet}
use Rattle.rules.proofs.NewSources.{sizes_grow}
use Rattle.floors.specs.declared.Told.{Told}
use Rattle.floors.specs.Floors.{told, step_answer, added}

added_told : (new : Bool) (r : Result ⊤ Refusal) → added (told new r) ≡ bit (is_ok r && new)
added_told new (Ok _) = refl
added_told new (Err refusal) = refl

told_ok : (P : Type 0) (new : Bool) (r : Result ⊤ Refusal) → OnOk (told new r) P → r ≡ Ok tt → P
told_ok P new (Ok _) p z = p
told_ok P new (Err refusal) p z = absurd (cc)

pub step_grows : (s : State) (m : Action) (result : Result Told Refusal) → s.settings.desks ≤ 16 → result ≡ step_answer s m → OnOk result (HasSet s m)
    → sum desk_sizes (next s m).desks ≡ sum desk_sizes s.desks + added result
step_grows s m result few is sized =
    let has : OnOk (told (adds_source s m) (answer s m)) (HasSet s m) = rw is at sized in
    rw (is, added_told (adds_source s m) (answer s m)) (sizes_grow s few m (told_ok (HasSet s m) (adds_source s m) (answer s m) has))
