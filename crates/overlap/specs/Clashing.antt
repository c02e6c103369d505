-- What the tests of the rule tell, and its law.
use Rattle.std.specs.Prelude.{◌≡◌, ℕ, ◌<◌, true, ℤ, pos, ◌≤ℤ◌, Decides}
use Rattle.std.proofs.Common.{inl, inr, ⊎_elim, sym, ◌∙◌, arith}
use Rattle.std.proofs.lemmas.Int.{ints}
use Rattle.std.proofs.lemmas.Bool.Decides.{Decides-and, Decides-or, Decides-not, Decides-eqb, Decides-like}
use Rattle.room.specs.Seen.{Room, Point, Inside, Holds, Within, cut}
use Rattle.room.proofs.Belows.{decides_any}
use Rattle.room.proofs.Cuts.{cut_below, cut_past, decides_holds}
use Rattle.overlap.specs.Clash.{is_zero, exempt, clash_box, rivals, overlap_shut, Exempt, ShutsBlocked}
use Rattle.overlap.specs.declared.Overlap.{Overlap}
use Rattle.overlap.specs.declared.Overlap.TheVariants.{Strict, Nonstrict}

pub decides_zero : (z : ℤ) → Decides (is_zero z) (z ≡ pos 0)
decides_zero z = (λ e. grind (arith, ints), λ e. grind (arith, ints))

pub decides_exempt : (mode : Overlap) (k : ℕ) (r : Room) (i j : ℕ) → Decides (exempt mode k r i j) (Exempt mode k r i j)
decides_exempt Strict k r i j = (λ e. grind arith, λ n. absurd n)
decides_exempt Nonstrict k r i j = decides_any _ _ (λ d. Decides-or _ _ (decides_zero (r.size i d)) (decides_zero (r.size j d))) k

-- j is another piece, and the pair can clash
pub record Rivals (mode : Overlap) (k : ℕ) (r : Room) (i j : ℕ) : Type 0 where
  pub other : j ≡ i → ⊥
  pub can : Exempt mode k r i j → ⊥

pub decides_rivals : (mode : Overlap) (k : ℕ) (r : Room) (i j : ℕ) → Decides (rivals mode k r i j) (Rivals mode k r i j)
decides_rivals mode k r i j =
    Decides-like _ (λ (o, c). record { other = o; can = c }) (λ v. (v.other, v.can))
    (Decides-and _ _ (Decides-not _ (Decides-eqb j i)) (Decides-not _ (decides_exempt mode k r i j)))

-- a rival whose box holds the point
pub record Boxed (mode : Overlap) (k : ℕ) (r : Room) (i : ℕ) (x : Point) (j : ℕ) : Type 0 where
  pub rival : Rivals mode k r i j
  pub held : Holds k (clash_box r i j) x

pub decides_shut : (mode : Overlap) (k : ℕ) (r : Room) (i : ℕ) (x : Point) → Decides (overlap_shut mode k r i x) ((j : ℕ) × (j < r.count) × Boxed mode k r i x j)
unfolding overlap_shut
decides_shut mode k r i x =
    decides_any _ _
    (λ j. Decides-like _ (λ (v, h). record { rival = v; held = h }) (λ b. (b.rival, b.held)) (Decides-and _ _ (decides_rivals mode k r i j) (decides_holds k (clash_box r i j) x)))
    r.count

-- lengths are the same inside, so a pair is exempt there only if it was before
exempt_back : (mode : Overlap) (k : ℕ) (b c : Room) (i j : ℕ) → Inside k c b → i < b.count → j < b.count → Exempt mode k c i j → Exempt mode k b i j
exempt_back Strict k b c i j in' here there e = e
exempt_back Nonstrict k b c i j in' here there (d, h, zero) =
    (d, h, ⊎_elim (λ e. inl (sym (in'.sizes i d here h) ∙ e)) (λ e. inr (sym (in'.sizes j d there h) ∙ e)) zero)

pub narrows : (mode : Overlap) (k : ℕ) (b c : Room) (i : ℕ) (x : Point) → Inside k c b → i < b.count → overlap_shut mode k b i x ≡ true → overlap_shut mode k c i x ≡ true
narrows mode k b c i x in' here shut =
    let (j, known, boxed) = (decides_shut mode k b i x).0 shut in
    let counts = in'.counts in
    (decides_shut mode k c i x).1 (
      j,
      omega arith,
      record {
        rival = record { other = boxed.rival.other; can = λ e. boxed.rival.can (exempt_back mode k b c i j in' here known e) };
        held = λ d h.
            let held = boxed.held d h in
            let mine = in'.sizes i d here h in
            let its = in'.sizes j d known h in
            let low = in'.lows j d known h in
            let high = in'.highs j d known h in
            (omega (arith, ints), omega (arith, ints));
      },
    )

-- numbers within the bounds of a piece on each axis are a point within them
cut_point : (k : ℕ) (r : Room) (j : ℕ) (f : ℕ → ℤ) → ((d : ℕ) → d < k → (r.low j d ≤ℤ f d) × (f d ≤ℤ r.high j d)) → Within k r j (cut k f)
cut_point k r j f between = record {
  above = λ d h. let e = cut_below k f d h in let b = between d h in omega (arith, ints);
  under = λ d h. let e = cut_below k f d h in let b = between d h in omega (arith, ints);
  flat = cut_past k f;
}

-- to lie in the box of j is to clash with j at every origin within its bounds
pub shuts_blocked : (mode : Overlap) → ShutsBlocked mode
shuts_blocked mode k r i x ranges =
    Decides-like _
    (λ (j, known, boxed). record {
      by = j;
      known = known;
      other = boxed.rival.other;
      clashes = λ y w. record {
        can = boxed.rival.can;
        overlap = λ d h. let b = boxed.held d h in let low = w.above d h in let high = w.under d h in (omega (arith, ints), omega (arith, ints));
      };
    })
    (λ blocked.
    let j = blocked.by in
    let order = ranges j blocked.known in
    let lowest = blocked.clashes (cut k (r.low j)) (cut_point k r j (r.low j) (λ d h. (omega (arith, ints), order d h))) in
    let highest = blocked.clashes (cut k (r.high j)) (cut_point k r j (r.high j) (λ d h. (order d h, omega (arith, ints)))) in (
      j,
      blocked.known,
      record {
        rival = record { other = blocked.other; can = lowest.can };
        held = λ d h.
            let l = lowest.overlap d h in
            let u = highest.overlap d h in
            let a = cut_below k (r.low j) d h in
            let b = cut_below k (r.high j) d h in
            (omega (arith, ints), omega (arith, ints));
      },
    ))
    (decides_shut mode k r i x)
