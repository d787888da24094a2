-- A fill of neighbouring cells, as the definitions of a taking say it.
use Rattle.std.proofs.Common.{◌≡◌, refl, sym, ap, ◌∙◌, List, ℕ, zero, suc, ◌+◌, ◌-◌, ◌≤◌, length, take, drop, append_assoc, arith}
use Rattle.std.specs.Prelude.{replicate}
use Rattle.std.proofs.lemmas.List.Edits.{sets, sets-eq, paste_all}
use Rattle.std.proofs.lemmas.Slice.{put_mid-paste}
use borrow.Rule.Slice.PartMut.{put_mid}
use lib.ListN.{set, length-replicate, length-drop}
use lib.Seq.{length-take-le}
use Rattle.tables.specs.State.{span, marks}
use Rattle.tables.proofs.memory.Cells.{span_nil, span_cons}

-- a part of the cells that is written anew, cell after cell
pub put_mid_sets : (a k : ℕ) (m vs : List ℕ) → k ≡ length vs → a + k ≤ length m → put_mid a k m vs ≡ sets m a vs
put_mid_sets a k m vs e h =
    put_mid-paste a k m vs vs k refl refl e ∙ paste_all m a vs k e
    ∙ rw e (sym (sets-eq vs m a (omega arith) ∙ append_assoc (take a m) vs (drop (a + length vs) m)))

-- marks of tokens that follow one another are one value in cells that do
marks_span : (m : List ℕ) (v i n k : ℕ) → n - i ≡ k → marks m v (span i n) ≡ sets m (16384 + i) (replicate k v)
unfolding marks
marks_span m v i n zero e = rw (span_nil i n (omega arith))
marks_span m v i n (suc k) e =
    let next : 16384 + (i + 1) ≡ suc (16384 + i) = omega arith in
    rw (span_cons i n (omega arith))
    (marks_span (set m (16384 + i) v) v (i + 1) n k (omega arith) ∙ ap (λ p. sets (set m (16384 + i) v) p (replicate k v)) next)

-- a fill of the cells of the standings of tokens that follow one another marks these
pub filled : (m : List ℕ) (v i n : ℕ) {a b : ℕ} {vs : List ℕ} → i ≤ n → a ≡ 16384 + i → b ≡ 16384 + n → b ≤ length m
    → vs ≡ replicate (length (take (b - a) (drop a m))) v → put_mid a (b - a) m vs ≡ marks m v (span i n)
filled m v i n {a} {b} {vs} l a-is b-is h vs_are =
    let long : length (take (b - a) (drop a m)) ≡ b - a = length-take-le (b - a) (drop a m) (omega (arith, length-drop a m)) in
    let size : b - a ≡ length vs = sym (rw vs_are (length-replicate _ v) ∙ long) in
    put_mid_sets a (b - a) m vs size (omega arith) ∙ rw (vs_are, long, a-is) (sym (marks_span m v i n (b - (16384 + i)) (omega arith)))
