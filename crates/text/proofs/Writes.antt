-- Texts written one after another.
use Rattle.std.proofs.Common.{◌≡◌, ℕ, List, ◌++◌, ap, ◌∙◌, append_assoc}

-- what is there after two, three and four writes
pub two_writes : (b₀ b₁ b₂ x y : List ℕ) → b₁ ≡ b₀ ++ x → b₂ ≡ b₁ ++ y → b₂ ≡ b₀ ++ (x ++ y)
two_writes b₀ b₁ b₂ x y p q = q ∙ ap (λ b. b ++ y) p ∙ append_assoc b₀ x y

pub three_writes : (b₀ b₁ b₂ b₃ x y z : List ℕ) → b₁ ≡ b₀ ++ x → b₂ ≡ b₁ ++ y → b₃ ≡ b₂ ++ z → b₃ ≡ b₀ ++ (x ++ (y ++ z))
three_writes b₀ b₁ b₂ b₃ x y z p q r = two_writes b₀ b₁ b₃ x (y ++ z) p (two_writes b₁ b₂ b₃ y z q r)

pub four_writes : (b₀ b₁ b₂ b₃ b₄ x y z w : List ℕ) → b₁ ≡ b₀ ++ x → b₂ ≡ b₁ ++ y → b₃ ≡ b₂ ++ z → b₄ ≡ b₃ ++ w → b₄ ≡ b₀ ++ (x ++ (y ++ (z ++ w)))
four_writes b₀ b₁ b₂ b₃ b₄ x y z w p q r s = two_writes b₀ b₁ b₄ x (y ++ (z ++ w)) p (three_writes b₁ b₂ b₃ b₄ y z w q r s)
