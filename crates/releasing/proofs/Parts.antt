-- Parts of the cells that std's methods write anew, as runs of stores.
use Rattle.std.proofs.Common.{◌≡◌, refl, sym, ap, ◌∙◌, List, ℕ, ◌+◌, ◌-◌, ◌≤◌, length, take, drop, append_assoc, arith}
use Rattle.std.specs.Prelude.{replicate}
use Rattle.std.specs.List.{copy_within}
use Rattle.std.proofs.lemmas.List.Edits.{sets, sets-eq, paste_all}
use Rattle.std.proofs.lemmas.Slice.{between_is, put_mid-paste}
use borrow.Rule.Slice.PartMut.{put_mid}
use lib.ListN.{length-replicate, length-drop}
use lib.Seq.{slice, length-take-le}

-- a part that is written anew, cell after cell
pub put_mid_sets : (a k : ℕ) (m vs : List ℕ) → k ≡ length vs → a + k ≤ length m → put_mid a k m vs ≡ sets m a vs
put_mid_sets a k m vs e h =
    put_mid-paste a k m vs vs k refl refl e ∙ paste_all m a vs k e
    ∙ rw e (sym (sets-eq vs m a (omega arith) ∙ append_assoc (take a m) vs (drop (a + length vs) m)))

-- how long a part is
pub part_length : (m : List ℕ) (a b : ℕ) → a ≤ b → b ≤ length m → length (take (b - a) (drop a m)) ≡ b - a
part_length m a b l h = length-take-le (b - a) (drop a m) (omega (arith, length-drop a m))

-- a fill
pub filled : (m : List ℕ) (v a b : ℕ) {vs : List ℕ} → a ≤ b → b ≤ length m → vs ≡ replicate (length (take (b - a) (drop a m))) v
    → put_mid a (b - a) m vs ≡ sets m a (replicate (b - a) v)
filled m v a b {vs} l h vs_are =
    let size : b - a ≡ length vs = sym (rw vs_are (length-replicate _ v) ∙ part_length m a b l h) in
    put_mid_sets a (b - a) m vs size (omega arith) ∙ rw (vs_are, part_length m a b l h)

-- a move
pub copied : (m : List ℕ) (a b to : ℕ) → a ≤ b → b ≤ length m → to ≤ a → copy_within m a b to ≡ sets m to (slice a b m)
copied m a b to l h down =
    let size : length (take (b - a) (drop a m)) ≡ b - a = part_length m a b l h in
    sym (ap (sets m to) (sym (between_is m a b)) ∙ sets-eq (take (b - a) (drop a m)) m to (omega arith) ∙ rw size)
