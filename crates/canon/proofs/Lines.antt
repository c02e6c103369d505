-- Lines that are written one after another are the lines that are read.
use Rattle.std.proofs.Common.{◌≡◌, ℕ, ◌+◌, ◌*◌, ◌≤◌, true, List, [], ◌∷◌, ◌++◌, map, length, drop, Ok, Result, refl, ap, append_assoc, arith}
use Rattle.std.specs.List.{flat_map, AllByRecursion}
use Rattle.std.proofs.ByRecursion.{All-weaker, All-map, All-append}
use Rattle.std.proofs.lemmas.List.{length-append, length-map, drop_at}
use Rattle.std.proofs.lemmas.Bool.{and_from, le-leb}
use Rattle.text.proofs.Parts.{Lacks, lines_ended}
use Rattle.text.proofs.Range.{InRange, all_within_from, all_in_range}
use Rattle.text.specs.Bytes.{all_within}
use Rattle.text.specs.Lines.{Line, line, lines, readable}
use Rattle.forms.specs.declared.fault.Fault.{Fault}
use Rattle.sheet.specs.Meaning.{line_says, each_says}

-- a text that may stand in a line
pub record Fit (body : List ℕ) : Type 0 where
  pub short : length body ≤ 96
  pub shown : AllByRecursion (InRange 32 126) body

-- a word in front of a text, both of printable bytes
pub shown_after : (word text : List ℕ) → all_within 32 126 word ≡ true → AllByRecursion (InRange 32 126) text → AllByRecursion (InRange 32 126) (word ++ text)
shown_after word text e h = All-append (InRange 32 126) word text (all_in_range 32 126 word e) h

-- a text, and the end of its line
abbrev pub ended : List ℕ → Line
ended body = line body true

pub fit_readable : (body : List ℕ) → Fit body → readable (ended body) ≡ true
fit_readable body h = and_from _ _ (le-leb (length body) 96 h.short) (all_within_from 32 126 body h.shown)

pub fit_lacks : (body : List ℕ) → Fit body → Lacks 10 body
fit_lacks body h = All-weaker (InRange 32 126) (λ b. b ≡ 10 → ⊥) (λ c k e. omega arith) body h.shown

-- what a line that was written says
pub line_back : {A : Type 0} (says : List ℕ → Result A Fault) (n : ℕ) (body : List ℕ) (ls : List Line) (x : A) → Fit body → says body ≡ Ok x → line_says says n (ended body ∷ ls) ≡ Ok x
line_back says n body ls x h e = rw (fit_readable body h, e)

-- one line, and what follows it
pub line_written : (write body rest : List ℕ) → write ≡ body ++ (10 ∷ []) → Fit body → lines (write ++ rest) ≡ ended body ∷ lines rest
line_written write body rest apart h = rw (apart, append_assoc body (10 ∷ []) rest) (lines_ended body rest (fit_lacks body h))

pub line_short : (write body : List ℕ) → write ≡ body ++ (10 ∷ []) → Fit body → length write ≤ 97
line_short write body apart h = omega (arith, ap length apart, length-append body (10 ∷ []), h.short)

-- each thing of type A is written as a line: its body, and the line feed
module _ {A : Type 0} (write : A → List ℕ) (body : A → List ℕ) (apart : (x : A) → write x ≡ body x ++ (10 ∷ [])) where
  pub lines_written : (xs : List A) (rest : List ℕ) → AllByRecursion (λ x. Fit (body x)) xs → lines (flat_map write xs ++ rest) ≡ map (λ x. ended (body x)) xs ++ lines rest
  lines_written [] rest h = refl
  lines_written (x ∷ xs) rest h =
      rw (append_assoc (write x) (flat_map write xs) rest, line_written (write x) (body x) (flat_map write xs ++ rest) (apart x) h.0, lines_written xs rest h.1)

  pub length_written : (xs : List A) → AllByRecursion (λ x. Fit (body x)) xs → length (flat_map write xs) ≤ 97 * length xs
  length_written [] h = omega arith
  length_written (x ∷ xs) h =
      omega (arith, length-append (write x) (flat_map write xs), line_short (write x) (body x) (apart x) h.0, length_written xs h.1)

module _ {A : Type 0} (body : A → List ℕ) where
  pub readable_written : (xs : List A) → AllByRecursion (λ x. Fit (body x)) xs → AllByRecursion (λ l. readable l ≡ true) (map (λ x. ended (body x)) xs)
  readable_written xs h = All-map (λ l. readable l ≡ true) (λ x. ended (body x)) xs (All-weaker (λ x. Fit (body x)) (λ x. readable (ended (body x)) ≡ true) (λ x k. fit_readable (body x) k) xs h)

  pub drop_written : (xs : List A) (more : List Line) → drop (length xs) (map (λ x. ended (body x)) xs ++ more) ≡ more
  drop_written xs more = drop_at (map (λ x. ended (body x)) xs) more (length xs) (length-map xs (λ x. ended (body x)))

  -- what the lines say, where each says the thing that was written
  pub each_back : (says : List ℕ → Result A Fault) (n : ℕ) (xs : List A) (more : List Line) → AllByRecursion (λ x. Fit (body x)) xs → AllByRecursion (λ x. says (body x) ≡ Ok x) xs → each_says says n (length xs) (map (λ x. ended (body x)) xs ++ more) ≡ Ok xs
  each_back says n [] more h k = refl
  each_back says n (x ∷ xs) more h k = rw (line_back says n (body x) (map (λ y. ended (body y)) xs ++ more) x h.0 k.0, each_back says (n + 1) xs more h.1 k.1)
