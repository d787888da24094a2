-- Texts that are put one after another.
use Rattle.std.proofs.Common.{◌≡◌, ℕ, List, [], ◌∷◌, ◌++◌}
use Rattle.std.proofs.lemmas.List.Sums.{fold-append}
use Rattle.sink.specs.Sinks.{Output, put_of, put_each}

-- some texts, and then others
pub each_append : (o : Output) (a b : List (List ℕ)) → put_each o (a ++ b) ≡ put_each (put_each o a) b
unfolding put_each
each_append o a b = fold-append put_of o a b

-- one text
pub put_one : (o : Output) {r : Output} (t : List ℕ) → r ≡ put_of o t → r ≡ put_each o (t ∷ [])
unfolding put_each
put_one o t same = same
