-- The words strict and nonstrict.
use Rattle.std.proofs.Common.{◌≡◌, ℕ, false, List, drop, [], ◌∷◌, Some, None, Ok, Err, Result, sym, ap, ◌∙◌, ⊎_elim}
use Rattle.std.specs.Str.{bytes_eq}
use Rattle.std.proofs.lemmas.Bool.{cond-false, cases_Bool}
use Rattle.std.proofs.lemmas.Slice.Eq.{bytes_eq-Decides}
use Rattle.std.specs.Result.{result_ok}
use Rattle.forms.specs.declared.contents.Mode.{Mode}
use Rattle.forms.specs.declared.contents.Mode.TheVariants.{Strict, Nonstrict}
use Rattle.forms.specs.declared.fault.Fault.{Fault}
use Rattle.text.specs.Numerals.{first_number, numbers}
use Rattle.forms.specs.Forms.{Names, mode_word, mode_of, announced, contents_items}

pub mode_some : (word : List ℕ) (m : Mode) → word ≡ mode_word m → mode_of word ≡ Some m
mode_some word Strict e = ap mode_of e
mode_some word Nonstrict e = ap mode_of e

differs : (word : List ℕ) (m : Mode) → (word ≡ mode_word m → ⊥) → bytes_eq word (mode_word m) ≡ false
differs word m h = ⊎_elim (λ e. absurd (h ((bytes_eq-Decides word (mode_word m)).0 e))) (λ e. e) (cases_Bool (bytes_eq word (mode_word m)))

mode_none : (word : List ℕ) → ((m : Mode) → word ≡ mode_word m → ⊥) → mode_of word ≡ None
mode_none word h = cond-false _ _ _ (differs word Strict (h Strict)) ∙ cond-false _ _ _ (differs word Nonstrict (h Nonstrict))

-- what a word is read as
pub mode_named : (word : List ℕ) (mode : Result Mode Fault) → Names word mode → result_ok mode ≡ mode_of word
mode_named word (Ok m) e = sym (mode_some word m e)
mode_named word (Err fault) h = sym (mode_none word h.1)

-- the items of a contents line, the first taken and then the word
pub contents_taken : (left rest : List (List ℕ)) (word : List ℕ) → drop 1 left ≡ word ∷ rest → contents_items left ≡ announced (first_number left) (mode_of word) (numbers 3 rest)
contents_taken [] rest word e = absurd cc
contents_taken (axes ∷ []) rest word e = absurd cc
contents_taken (axes ∷ (mode ∷ more)) rest word e = cc
