-- A text taken apart at its first line feed or space.
use Rattle.std.proofs.Common.{◌≡◌, ◌≢◌, ℕ, ◌<◌, true, false, eqb, List, [], ◌∷◌, ◌++◌, length, None, Some, Option, MatchOption, All, is_some, Bor, refl, ap, ◌∙◌, arith}
use Rattle.std.specs.List.{AllByRecursion}
use Rattle.std.proofs.lemmas.List.Elements.{All-from_recursion, All-weaker, recursion_from_All}
use Rattle.std.proofs.lemmas.List.Splits.{slice_split_at, slice_split_none}
use Rattle.std.proofs.lemmas.Bool.{cond-false, ne_eqb}
use Rattle.text.specs.Lines.{line, lines, grown}
use Rattle.text.specs.Items.{items}
use Rattle.text.specs.Split.{items_after, lines_after}

-- no byte of the text is c
abbrev pub Lacks : ℕ → List ℕ → Type 0
Lacks c text = AllByRecursion (λ b. b ≡ c → ⊥) text

-- the same by the test for c
fails : (c : ℕ) (text : List ℕ) → All (λ b. b ≢ c) text → All (λ b. eqb b c ≡ false) text
fails c text h = All-weaker (λ b. b ≢ c) (λ b. eqb b c ≡ false) (λ b k. ne_eqb b c k) text h

pub lines_ended : (front rest : List ℕ) → Lacks 10 front → lines (front ++ (10 ∷ rest)) ≡ line front true ∷ lines rest
lines_ended [] rest h = refl
lines_ended (c ∷ cs) rest h = cond-false _ _ _ (ne_eqb c 10 h.0) ∙ ap (grown c) (lines_ended cs rest h.1)

pub lines_open : (text : List ℕ) → Lacks 10 text → 0 < length text → lines text ≡ line text false ∷ []
lines_open [] h n = absurd (omega arith)
lines_open (c ∷ []) h n = cond-false _ _ _ (ne_eqb c 10 h.0)
lines_open (c ∷ (d ∷ ds)) h n = cond-false _ _ _ (ne_eqb c 10 h.0) ∙ ap (grown c) (lines_open (d ∷ ds) h.1 (omega arith))

pub items_parted : (front rest : List ℕ) → Lacks 32 front → items (front ++ 32 ∷ rest) ≡ front ∷ items rest
items_parted front rest h = slice_split_at _ front 32 rest (fails 32 front (All-from_recursion _ front h)) refl

pub items_last : (text : List ℕ) → Lacks 32 text → items text ≡ text ∷ []
items_last text h = slice_split_none _ text (fails 32 text (All-from_recursion _ text h))

-- a text cut at its first space, which has one where something follows
pub items_cut : (text front : List ℕ) (rest : Option (Bor (List ℕ))) → All (λ b. b ≢ 32) front → MatchOption rest (text ≡ front) (λ r. text ≡ front ++ 32 ∷ r.now) → items text ≡ front ∷ items_after rest
items_cut text front None lacks whole = ap items whole ∙ slice_split_none _ front (fails 32 front lacks)
items_cut text front (Some r) lacks whole = ap items whole ∙ slice_split_at _ front 32 r.now (fails 32 front lacks) refl

-- a text cut at its first line feed, which has one where the line has ended
pub lines_cut : (text front : List ℕ) (rest : Option (Bor (List ℕ))) → 0 < length text → All (λ b. b ≢ 10) front → MatchOption rest (text ≡ front) (λ r. text ≡ front ++ 10 ∷ r.now) → lines text ≡ line front (is_some rest) ∷ lines_after rest
lines_cut text front None some lacks whole = ap lines whole ∙ lines_open front (recursion_from_All _ front lacks) (omega (arith, ap length whole))
lines_cut text front (Some r) some lacks whole = ap lines whole ∙ lines_ended front r.now (recursion_from_All _ front lacks)
