-- The number of the whole word is that of the digits from here on behind the value so far.
use Rattle.std.proofs.Common.{◌≡◌, ◌≤◌, drop}
use Rattle.words.specs.Numbers.{number_of}
use Rattle.words.proofs.Digits.{number_from}
use Rattle.words.proofs.read_number.Given as goal

abbrev pub invariant-loop-b : goal.invariant-loop-b
invariant-loop-b l = (l.n ≤ l.most) × (number_of l.most l.word ≡ number_from l.most l.n (drop l.b-index l.word))
