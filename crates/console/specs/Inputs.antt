-- Standard input in its buffer, of which a part is not served yet.
use Rattle.std.specs.Prelude.{◌≡◌, true, false, List, ◌++◌, ℕ, ◌+◌, ◌-◌, ◌<◌, ◌≤◌, eqb, ltb, length, take, drop, set}
use Rattle.rules.specs.Lists.{must, must_not, has}
use Rattle.words.specs.Words.{up_to}
use Rattle.console.specs.declared.input.Input.{Input}

-- that part is within the buffer
pub record Within (size : ℕ) (i : Input) : Type 0 where
  pub at : i.at ≤ i.end
  pub end : i.end ≤ size

-- the part
abbrev pub pending : Input → List ℕ → List ℕ
pending i buffer = take (i.end - i.at) (drop i.at buffer)

-- a whole line is there, of so many bytes before its newline
pub record WholeLine (i : Input) (buffer : List ℕ) (size : ℕ) : Type 0 where
  pub some : has (pending i buffer) 10 ≡ true
  pub size_is : size ≡ length (up_to 10 (pending i buffer))
  pub within : i.at + size < i.end

-- nothing is read yet; the last that is read
abbrev pub no_input : Input
no_input = record { at = 0; end = 0; skips = false; ended = false }

abbrev pub last_input : ℕ → Input
last_input end = record { at = 0; end = end; skips = false; ended = true }

-- the same from another place on; nothing of it, and the rest of its line is to be passed over
abbrev pub input_from : Input → ℕ → Input
input_from i at = record { at = at; end = i.end; skips = i.skips; ended = i.ended }

abbrev pub too_long : Input → Input
too_long i = record { at = i.end; end = i.end; skips = true; ended = i.ended }

-- the rest of a line is passed over, with its newline; all where there is none
unfoldable pub passed_line : Input → List ℕ → Input
passed_line i text =
    must (has text 10) (too_long i)
    (record { at = i.at + length (up_to 10 text) + 1; end = i.end; skips = false; ended = i.ended })

-- where it is the rest of a line that is too long
unfoldable pub passed_long : Input → List ℕ → Input
passed_long i text = must i.skips i (passed_line i text)

-- the input has ended: a newline ends what is left in the buffer, the last line, if something is
unfoldable pub ended_with : ℕ → List ℕ → Input × List ℕ
ended_with kept buffer =
    must_not (eqb kept 0) (last_input 0, buffer)
    (must (ltb kept (length buffer)) (last_input 0, buffer)
    (last_input (kept + 1), set buffer kept 10))

-- what is read from the front of the buffer on, up to an end
abbrev pub read_up_to : Input → ℕ → Input
read_up_to i end = record { at = 0; end = end; skips = i.skips; ended = false }

-- more of the input is read into the buffer, behind what was left: some bytes, of which nothing is known; or none, and it has ended
pub data Arrived (i : Input) (left : List ℕ) (r : Input) (buffer : List ℕ) : Type 0 where
  more : (count : ℕ) → 1 ≤ count → take (length left) buffer ≡ left →
      r ≡ passed_long (read_up_to i (length left + count)) (pending (read_up_to i (length left + count)) buffer) → Arrived i left r buffer
  last : (before : List ℕ) → take (length left) before ≡ left → (r, buffer) ≡ ended_with (length left) before → Arrived i left r buffer

-- what is not served yet begins with what was left
pub record Behind (left : List ℕ) (r : Input) (buffer : List ℕ) : Type 0 where
  pub read : List ℕ
  pub text : pending r buffer ≡ left ++ read
