-- What the rules' run says of one entry, in the words of the wait. Assumes nothing.
use Rattle.std.specs.Prelude.{List, ℕ, ◌≤◌}
use Rattle.rules.specs.declared.Settings.{Settings}
use Rattle.rules.specs.declared.Action.{Action}
use Rattle.agreement.specs.Wait.{AnnouncedBy}

-- T is the first clock by which f + 1 different desks have carried out an announcement of entry e
abbrev pub FirstBy : Settings → ℕ → List Action → ℕ → Type 0
FirstBy k e actions T = AnnouncedBy k e actions T × ((t : ℕ) → AnnouncedBy k e actions t → T ≤ t)
