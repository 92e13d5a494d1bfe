-- What the search for the earliest note has to find: the note, of those from desk i to desk j with entry e, with the earliest time-out, and of
-- equal ones the first.
use Rattle.std.specs.Prelude.{◌≡◌, true, List, ℕ, ◌≤◌, ◌<◌, slice_index}
use Rattle.rules.specs.Rules.{time_out, speaks_of}

abbrev pub time_out_at : List ℕ → ℕ → ℕ
time_out_at ns p = time_out (slice_index ns p)

module _ (i j e : ℕ) (ns : List ℕ) where
  abbrev pub Speaks_at : ℕ → Type 0
  Speaks_at p = speaks_of i j e (slice_index ns p) ≡ true

  -- place k, of the first n places, has a note that speaks of what is looked for, none that does so has an earlier time-out, and those
  -- before it have later ones
  pub record Earliest (n k : ℕ) : Type 0 where
    pub within : k < n
    pub speaks : Speaks_at k
    pub least : (p : ℕ) → p < n → Speaks_at p → time_out_at ns k ≤ time_out_at ns p
    pub first : (p : ℕ) → p < k → Speaks_at p → time_out_at ns k < time_out_at ns p
