-- Texts that begin with a word.
use Rattle.std.proofs.Common.{◌≡◌, ◌≢◌, ℕ, eqb, List, [], ◌∷◌, ◌++◌, Some, None, refl, ◌∙◌}
use Rattle.std.proofs.lemmas.Bool.{cond-true, eq-eqb, eqb-true, cond_both}
use Rattle.text.specs.Items.{after}

-- what follows a word is what was put after it
pub after_front : (p t : List ℕ) → after p (p ++ t) ≡ Some t
after_front [] t = refl
after_front (c ∷ p) t = cond-true _ _ _ (eq-eqb c c refl) ∙ after_front p t

-- nothing follows a word that the text does not begin with
pub after_none : (p l : List ℕ) → ((rest : List ℕ) → l ≢ p ++ rest) → None ≡ after p l
after_none [] l h = absurd (h l refl)
after_none (c ∷ p) [] h = refl
after_none (c ∷ p) (d ∷ l) h =
    cond_both (eqb c d) (after p l) None (λ o. None ≡ o)
    (λ e. after_none p l (λ rest k. let same : c ≡ d = eqb-true c d e in h rest cc))
    (λ e. refl)
