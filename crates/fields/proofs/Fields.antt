-- Fields and their bytes: each is made of the other again.
use mathlib.Core.Path.{◌≡◌, refl, sym, ap, ◌∙◌}
use mathlib.Core.List.{List, [], ◌∷◌, map}
use Prim.Native.Nat.{ℕ, zero, suc, ◌+◌, ◌-◌, ◌*◌, ◌/◌, ◌%◌, ◌≤◌, ◌<◌}
use native.Mathlib.Numerals.{add-one, add-two}
use native.Mathlib.Omega.{arith}
use borrow.Author.Tests.{le-leb, lt-leb}
use lib.ListN.{length, get_or, take, drop, length-drop}
use lib.Seq.{get_or-drop, drop-cons}
use Rattle.std.proofs.lemmas.List.{take_rest, length-map, get_or-map}
use mir.Syntax.{w16}
use Rattle.std.specs.Int.{from_le_bytes}
use Rattle.std.specs.Simd.{first_chunks}
use Rattle.fields.specs.Bytes.{field_at, field_in, fields, field_bytes, Bytes}
use Rattle.rules.specs.Lists.{Every}

-- a field is in a list, or is not
pub field_inside : (s : List ℕ) (i : ℕ) {r : ℕ} → i + 2 ≤ length s → r ≡ field_in s i → r ≡ field_at s i
unfolding field_in
field_inside s i h e = e ∙ rw (le-leb (i + 2) (length s) h)

-- the field that the rest of a list from a place on begins with
pub field_read : (s rest : List ℕ) (i : ℕ) {r : ℕ} → rest ≡ take (length s - i) (drop i s) → i ≤ length s → 2 ≤ length rest → r ≡ field_at rest 0 → r ≡ field_in s i
unfolding field_in
field_read s rest i e h two f =
    let same : rest ≡ drop i s = e ∙ take_rest s i in
    let long : length rest ≡ length s - i = ap length same ∙ length-drop i s in
    let first : i + 0 ≡ i = omega arith in
    rw (le-leb (i + 2) (length s) (omega arith)) (f ∙ rw (same, get_or-drop i s 0 0, get_or-drop i s 1 0, first))

pub no_field : (s : List ℕ) (i : ℕ) → length s < i + 2 → 0 ≡ field_in s i
unfolding field_in
no_field s i h = rw (lt-leb (i + 2) (length s) h)

-- fewer than two bytes hold no field
few_bytes : (s : List ℕ) → length s ≤ 1 → fields s ≡ []
unfolding fields
few_bytes [] h = refl
few_bytes (b ∷ []) h = refl
few_bytes (b ∷ c ∷ s) h = absurd (omega arith)

module _ (s : List ℕ) (i : ℕ) where
  -- the field at i, and those after it
  pub fields_turn : i + 1 < length s → fields (drop i s) ≡ field_at s i ∷ fields (drop (i + 2) s)
  unfolding fields
  fields_turn h =
      let p : i < length s = omega arith in
      let q : suc i < length s = omega arith in
      rw (add-one, add-two, drop-cons s i 0, drop-cons s (suc i) 0)

  pub fields_end : length s ≤ i + 1 → fields (drop i s) ≡ []
  fields_end h = few_bytes (drop i s) (simp length-drop (omega arith))

-- the fields are the numbers of the chunks of two bytes
chunked : (n : ℕ) (s : List ℕ) → length s / 2 ≡ n → fields s ≡ map (from_le_bytes w16) (first_chunks 2 n s)
unfolding fields
chunked zero [] e = refl
chunked zero (b ∷ []) e = refl
chunked zero (b ∷ c ∷ s) e = absurd (omega arith)
chunked (suc n) [] e = absurd (omega arith)
chunked (suc n) (b ∷ []) e = absurd (omega arith)
chunked (suc n) (b ∷ c ∷ s) e = rw (chunked n s (omega arith))

module _ (s : List ℕ) {chunks : List (List ℕ)} (e : chunks ≡ first_chunks 2 (length s / 2) s) where
  fields_are : fields s ≡ map (from_le_bytes w16) chunks
  fields_are = chunked (length s / 2) s refl ∙ ap (map (from_le_bytes w16)) (sym e)

  pub fields_count : length (fields s) ≡ length chunks
  fields_count = ap length fields_are ∙ length-map chunks (from_le_bytes w16)

  pub field_of : (i : ℕ) → i < length chunks → from_le_bytes w16 (get_or chunks i []) ≡ get_or (fields s) i 0
  field_of i h = rw (fields_are, get_or-map (from_le_bytes w16) chunks i [] 0)

-- a field's bytes, put together
pub joined : (n : ℕ) → n % 256 + n / 256 * 256 ≡ n
joined n = omega arith

-- the bytes of a field that was put together
pub low : (b c : ℕ) → b < 256 → (b + c * 256) % 256 ≡ b
low b c h = omega arith

pub high : (b c : ℕ) → b < 256 → (b + c * 256) / 256 ≡ c
high b c h = omega arith

pub tail_bytes : (b : ℕ) (s : List ℕ) → Bytes (b ∷ s) → Bytes s
tail_bytes b s bs i = bs (suc i)

-- a field whose byte is past the end of a part is 0 there
pub take_bytes : (n : ℕ) (s : List ℕ) → Bytes s → Bytes (take n s)
take_bytes zero s bs i = omega arith
take_bytes (suc n) [] bs i = omega arith
take_bytes (suc n) (b ∷ s) bs zero = bs 0
take_bytes (suc n) (b ∷ s) bs (suc i) = take_bytes n s (tail_bytes b s bs) i

pub drop_bytes : (n : ℕ) (s : List ℕ) → Bytes s → Bytes (drop n s)
drop_bytes n s bs i = rw get_or-drop (bs (n + i))

-- an even number of bytes is made of its fields again
pub fields_bytes : (n : ℕ) (s : List ℕ) → Bytes s → length s ≡ 2 * n → field_bytes (fields s) ≡ s
unfolding fields field_bytes
fields_bytes n [] bs e = refl
fields_bytes n (b ∷ []) bs e = absurd (omega arith)
fields_bytes n (b ∷ c ∷ s) bs e =
    rw (low b c (bs 0), high b c (bs 0), fields_bytes (n - 1) s (λ i. bs (suc (suc i))) (omega arith))

pub length_fields : (n : ℕ) (s : List ℕ) → length s ≡ 2 * n → length (fields s) ≡ n
unfolding fields
length_fields n [] e = omega arith
length_fields n (b ∷ []) e = absurd (omega arith)
length_fields n (b ∷ c ∷ s) e = omega (arith, length_fields (n - 1) s (omega arith))

-- fields of bytes are below 65,536
pub fields_fit : (s : List ℕ) → Bytes s → Every (λ n. n < 65536) (fields s)
unfolding fields
fields_fit [] bs = tt
fields_fit (b ∷ []) bs = tt
fields_fit (b ∷ c ∷ s) bs = (omega (arith, bs 0, bs 1), fields_fit s (λ i. bs (suc (suc i))))

-- fields are made of their bytes again
pub bytes_fields : (ns : List ℕ) → fields (field_bytes ns) ≡ ns
unfolding fields field_bytes
bytes_fields [] = refl
bytes_fields (n ∷ ns) = rw (joined n, bytes_fields ns)

pub length_field_bytes : (ns : List ℕ) → length (field_bytes ns) ≡ 2 * length ns
unfolding field_bytes
length_field_bytes [] = refl
length_field_bytes (n ∷ ns) = omega (arith, length_field_bytes ns)

pub field_bytes_bytes : (ns : List ℕ) → Every (λ n. n < 65536) ns → Bytes (field_bytes ns)
unfolding field_bytes
field_bytes_bytes [] h i = omega arith
field_bytes_bytes (n ∷ ns) h zero = omega arith
field_bytes_bytes (n ∷ ns) h (suc zero) = omega arith
field_bytes_bytes (n ∷ ns) h (suc (suc i)) = field_bytes_bytes ns h.1 i
