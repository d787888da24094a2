-- Where output goes: through a lent buffer to standard output, or into a digest of it. What standard output is sent is no part of a
-- contract; what waits in the buffer, and the digest, are.
use Rattle.std.specs.Prelude.{ℕ, ◌+◌, ◌-◌, ◌*◌, ◌%◌, Bool, false, List, ◌++◌, length, take, drop, ◌==◌, nat_le, nat_lt}
use Rattle.std.specs.List.{fold}
use Rattle.rules.specs.Lists.{if, must, must_not}
use Rattle.sink.specs.declared.Digest.{Digest}
use Rattle.sink.specs.declared.Sink.{Sink}
use Rattle.sink.specs.declared.Target.{Target}
use Rattle.sink.specs.declared.Target.TheVariants.{StandardOutput, Digested}

-- a sink, and the bytes of its buffer
abbrev pub Output : Type 0
Output = Sink × List ℕ

-- at first: to standard output, or to a digest
unfoldable pub written : Sink
written = record { at = 0; target = StandardOutput; digest = record { lines = 0; sum = 1 } }

unfoldable pub digested : Sink
digested = record { at = 0; target = Digested; digest = record { lines = 0; sum = 1 } }

-- the sum with one byte more, and the number of lines, which wraps at 2^64
unfoldable pub mixed : ℕ → ℕ → ℕ
mixed sum byte = (sum % 4294967291 * 65599 + byte) % 4294967291

unfoldable pub counted : ℕ → ℕ → ℕ
counted lines byte = if (byte == 10) ((lines + 1) % 18446744073709551616) lines

abbrev pub with_byte : Digest → ℕ → Digest
with_byte d byte = record { lines = counted d.lines byte; sum = mixed d.sum byte }

-- the digest with these bytes
abbrev pub digest_of : Digest → List ℕ → Digest
digest_of = fold with_byte

-- bytes that are handed on; none waits then
abbrev pub handed_on : Target → Digest → List ℕ → Sink
handed_on StandardOutput d bytes = written
handed_on Digested d bytes = record { at = 0; target = Digested; digest = digest_of d bytes }

-- what waits is handed on; a sink that has more waiting than its buffer has bytes is left as it is
unfoldable pub flushed_of : Sink → List ℕ → Sink
flushed_of s out = must_not (nat_lt (length out) s.at) s (handed_on s.target s.digest (take s.at out))

-- so many bytes fit behind those that wait
unfoldable pub fits_of : Sink → ℕ → ℕ → Bool
fits_of s size count = must (nat_le s.at size) false (nat_le count (size - s.at))

-- some bytes in place of as many others
unfoldable pub spliced : List ℕ → ℕ → List ℕ → List ℕ
spliced out at text = take at out ++ (text ++ drop (at + length text) out)

-- a text is added to what waits, if it fits
unfoldable pub stored_of : Output → List ℕ → Output
stored_of o text =
    must (fits_of o.0 (length o.1) (length text)) o
    (record { at = o.0.at + length text; target = o.0.target; digest = o.0.digest }, spliced o.1 o.0.at text)

-- and what waits is handed on first if it does not
unfoldable pub put_of : Output → List ℕ → Output
put_of o text =
    if (fits_of o.0 (length o.1) (length text)) (stored_of o text) (stored_of (flushed_of o.0 o.1, o.1) text)

-- texts, one after another
unfoldable pub put_each : Output → List (List ℕ) → Output
put_each = fold put_of
