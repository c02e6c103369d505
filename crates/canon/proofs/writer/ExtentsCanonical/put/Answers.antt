use Rattle.std.proofs.Common.{◌≡◌, List, [], ◌∷◌, ◌++◌, ℤ, string_bytes, refl, ap, ◌∙◌, append_assoc, arith}
use Rattle.std.specs.List.{flat_map}
use Rattle.std.proofs.lemmas.List.{take_all}
use Rattle.std.proofs.lemmas.List.Concat.{flat_map-append}
use Rattle.std.proofs.lemmas.List.Folds.{flat_map-map}
use Rattle.room.specs.Listed.{listed}
use Rattle.canon.specs.Canonical.{spaced, piece_numbers, piece_line}
use Rattle.canon.proofs.writer.ExtentsCanonical.put.Goals as goal

-- two numbers for each item
spaced_pairs : {X : Type 0} (a b : X → ℤ) (xs : List X) → flat_map (λ x. spaced (a x) ++ spaced (b x)) xs ≡ flat_map spaced (flat_map (λ x. a x ∷ (b x ∷ [])) xs)
spaced_pairs a b [] = refl
spaced_pairs a b (x ∷ xs) = append_assoc (spaced (a x)) (spaced (b x)) _ ∙ ap (λ bs. spaced (a x) ++ (spaced (b x) ++ bs)) (spaced_pairs a b xs)

pub returns : goal.returns
returns c =
    let es = listed c.args.self.now in
    let lengths = rw (take_all c.loop-length.length-index c.as_slice-extents.result.now (omega arith), c.as_slice-extents.ensures.items) at c.loop-length.invariant in
    let ends = rw c.as_slice-extents.ensures.items at c.in_ok-put_each.ensures in
    let numbers : flat_map spaced (piece_numbers es) ≡ flat_map (λ e. spaced e.length) es ++ flat_map (λ e. spaced e.span.lower ++ spaced e.span.upper) es =
    rw (flat_map-append, flat_map-map, spaced_pairs (λ e. e.span.lower) (λ e. e.span.upper) es) in
    let whole : string_bytes c.put_each.new.out ++ (10 ∷ []) ≡ string_bytes c.args.out.now ++ piece_line es = rw (ends, lengths, c.in_ok-write.ensures.bytes, numbers) (simp append_assoc) in
    rw whole at c.write-2.ensures.bytes
