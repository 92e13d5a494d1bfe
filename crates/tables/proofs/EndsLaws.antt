-- What is found at the front of a text leaves a part of the text after it.
use Rattle.std.proofs.Common.{◌≡◌, refl, sym, ap, ◌∙◌, ℕ, ◌-◌, ◌≤◌, Bool, true, false, ◌&&◌, ◌==◌, List, [], ◌∷◌, ◌++◌, length, slice_index, take, drop, append_assoc, append-nil, length-append, arith}
use Rattle.std.proofs.lemmas.List.{take-append-drop, drop_at}
use Rattle.sets.proofs.Tests.{cond_both}
use Rattle.tables.specs.Grammar.{Front, found, ◌before◌, broken, comma, quote, textdata, quotable, non_escaped, inside_quotes, closed, field_of, after_ending}
use Rattle.tables.specs.Fields.{held_of}

-- one text is the end of another
pub record Ends (after text : List ℕ) : Type 0 where
  pub front : List ℕ
  pub whole : front ++ after ≡ text

pub ends-whole : (text : List ℕ) → Ends text text
ends-whole text = record { front = []; whole = refl }

pub ends-later : {after text : List ℕ} (byte : ℕ) → Ends after text → Ends after (byte ∷ text)
ends-later byte h = record { front = byte ∷ h.front; whole = ap (λ (xs : List ℕ). byte ∷ xs) h.whole }

pub ends-none : (text : List ℕ) → Ends [] text
ends-none text = record { front = text; whole = append-nil text }

pub ends-drop : (n : ℕ) (text : List ℕ) → Ends (drop n text) text
ends-drop n text = record { front = take n text; whole = take-append-drop n text }

pub ends-ends : {last after text : List ℕ} → Ends last after → Ends after text → Ends last text
ends-ends {last} g h =
    record { front = h.front ++ g.front; whole = append_assoc h.front g.front last ∙ ap (λ (xs : List ℕ). h.front ++ xs) g.whole ∙ h.whole }

pub ends-short : {after text : List ℕ} → Ends after text → length after ≤ length text
ends-short {after} h = omega (arith, ap length h.whole, length-append h.front after)

pub ends-rest : {after text : List ℕ} → Ends after text → drop (length text - length after) text ≡ after
ends-rest {after} h =
    rw (sym h.whole) (drop_at h.front after (length (h.front ++ after) - length after) (omega (arith, length-append h.front after)))

-- ---- what a field holds, and its ending

plain-ends : (text : List ℕ) → Ends (non_escaped text).after text
plain-ends [] = ends-whole []
plain-ends (byte ∷ text) =
    cond_both (λ (front : Front ℕ). Ends front.after (byte ∷ text)) (textdata byte) (byte before non_escaped text) (found [] (byte ∷ text))
    (λ t. ends-later byte (plain-ends text)) (λ f. ends-whole (byte ∷ text))

inside-ends : (text : List ℕ) → Ends (inside_quotes text).after text
inside-ends [] = ends-whole []
inside-ends (byte ∷ []) =
    cond_both (λ (front : Front ℕ). Ends front.after (byte ∷ [])) (quotable byte) (found (byte ∷ []) []) (found [] (byte ∷ []))
    (λ t. ends-none (byte ∷ [])) (λ f. ends-whole (byte ∷ []))
inside-ends (byte ∷ next ∷ text) =
    cond_both (λ (front : Front ℕ). Ends front.after (byte ∷ next ∷ text)) (quotable byte) (byte before inside_quotes (next ∷ text)) _
    (λ t. ends-later byte (inside-ends (next ∷ text)))
    (λ f. cond_both (λ (front : Front ℕ). Ends front.after (byte ∷ next ∷ text)) (byte == quote && next == quote) (quote before inside_quotes text) (found [] (byte ∷ next ∷ text))
    (λ d. ends-later byte (ends-later next (inside-ends text))) (λ d. ends-whole (byte ∷ next ∷ text)))

pub held-ends : (quoted : Bool) (text : List ℕ) → Ends (held_of quoted text).after text
held-ends true text = inside-ends text
held-ends false text = plain-ends text

pub field-ends : (text : List ℕ) → Ends (field_of text).after text
field-ends [] = ends-whole []
field-ends (byte ∷ text) =
    let Ended : Front ℕ → Type 0 = λ front. Ends front.after (byte ∷ text) in
    let inside = inside_quotes text in
    cond_both Ended (byte == quote) (closed inside) (non_escaped (byte ∷ text))
    (λ t. cond_both Ended (slice_index inside.after 0 == quote) (found inside.holds (drop 1 inside.after)) broken
    (λ q. ends-later byte (ends-ends (ends-drop 1 inside.after) (inside-ends text))) (λ q. ends-none (byte ∷ text)))
    (λ f. plain-ends (byte ∷ text))

pub ending-ends : (text : List ℕ) → Ends (after_ending text) text
ending-ends [] = ends-whole []
ending-ends (byte ∷ text) =
    cond_both (λ (after : List ℕ). Ends after (byte ∷ text)) (byte == comma) text (drop 1 text)
    (λ t. ends-later byte (ends-whole text)) (λ f. ends-later byte (ends-drop 1 text))

pub field-short : (text : List ℕ) {after : List ℕ} → after ≡ (field_of text).after → length after ≤ length text
field-short text e = rw e (ends-short (field-ends text))
