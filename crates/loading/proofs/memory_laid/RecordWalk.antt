-- The walk over the records that some bytes spell, one record a turn: it is copied to memory, and where it stands is marked.
use mathlib.Core.Path.{◌≡◌, refl, sym, ap, subst, ◌∙◌}
use mathlib.Core.List.{List, [], ◌∷◌, ◌++◌}
use Prim.Native.Nat.{ℕ, zero, suc, ◌+◌, ◌*◌, ◌≤◌, ◌<◌}
use native.Mathlib.Omega.{arith}
use lib.ListN.{length, take, drop, length-append, set}
use lib.Seq.{sets, take_at, drop_at}
use Rattle.fields.specs.Bytes.{field_in, fields, field_bytes}
use Rattle.fields.proofs.Fields.{field_inside, bytes_fields, length_field_bytes}
use Rattle.plan.specs.Plan.{Record, ValidRecord, record_bytes, records_bytes}
use Rattle.rules.specs.Lists.{Every}
use Rattle.plan.proofs.CompleteParts.{token_read, count_read, length_read}
use Rattle.tables.proofs.code.MovingLaws.{sets_append}
use Rattle.loading.specs.Layout.{record_fields, records_fields, Spells, pointed}

-- the memory with some records copied and marked, the first of which stands at a place
abbrev pub laying : List ℕ → ℕ → List Record → List ℕ
laying m place rs = pointed (sets m place (records_fields rs)) place rs

-- stores at two places, and stores before a place, in either order
set_swap : (l : List ℕ) (i j a b : ℕ) → i < j → set (set l i a) j b ≡ set (set l j b) i a
set_swap [] i j a b h = refl
set_swap (x ∷ l) i zero a b h = absurd (omega arith)
set_swap (x ∷ l) zero (suc j) a b h = refl
set_swap (x ∷ l) (suc i) (suc j) a b h = ap (λ (r : List ℕ). x ∷ r) (set_swap l i j a b (omega arith))

sets_swap : (m vs : List ℕ) (p i v : ℕ) → p + length vs ≤ i → set (sets m p vs) i v ≡ sets (set m i v) p vs
sets_swap m [] p i v h = refl
sets_swap m (x ∷ vs) p i v h = sets_swap (set m p x) vs (suc p) i v (omega arith) ∙ ap (λ (l : List ℕ). sets l (suc p) vs) (set_swap m p i x v (omega arith))

-- to lay records out is to lay the first out, and then those after it
laying_turn : (m : List ℕ) (place : ℕ) (r : Record) (rs : List Record) → place + length (records_fields (r ∷ rs)) ≤ 12288 →
    laying m place (r ∷ rs) ≡ laying (set (sets m place (record_fields r)) (12288 + r.token) (place + 1)) (place + (1 + length r.numbers)) rs
unfolding pointed records_fields
laying_turn m place r rs h =
    let ends : place + length (record_fields r) ≡ place + (1 + length r.numbers) = omega arith in
    let long = length-append (record_fields r) (records_fields rs) in
    ap (λ (l : List ℕ). pointed (set l (12288 + r.token) (place + 1)) (place + (1 + length r.numbers)) rs)
    (sets_append (record_fields r) (records_fields rs) m place ∙ ap (λ n. sets (sets m place (record_fields r)) n (records_fields rs)) ends)
    ∙ ap (λ (l : List ℕ). pointed l (place + (1 + length r.numbers)) rs)
    (sets_swap (sets m place (record_fields r)) (records_fields rs) (place + (1 + length r.numbers)) (12288 + r.token) (place + 1) (omega arith))

-- the records that are left, the first of which is to stand at `place`, and what is left to do
pub record Left (rest whole mem : List ℕ) (place : ℕ) : Type 0 where
  pub records : List Record
  pub bytes : records_bytes records ≡ rest
  pub each : Every (ValidRecord 4096) records
  pub fits : place + length (records_fields records) ≤ 12288
  pub left : whole ≡ laying mem place records

pub left_first : {part m : List ℕ} {rs : List Record} → Spells part rs → Left part (laying m 0 rs) m 0
left_first {rs = rs} s = record { records = rs; bytes = s.bytes; each = s.each; fits = omega (arith, s.fits); left = refl }

-- the first record that is left, with this token and count, and what is left after it
pub record First (rest whole mem : List ℕ) (place token count : ℕ) : Type 0 where
  pub small : token < 4096
  pub room : place + (1 + count) ≤ 12288
  pub inside : 4 + 2 * count ≤ length rest
  pub next : Left (drop (4 + 2 * count) rest) whole
      (set (sets mem place (fields (drop 2 (take (4 + 2 * count) rest)))) (12288 + token) (place + 1)) (place + (1 + count))

-- as long as bytes are left a record is left, and else none
some_left : (rest : List ℕ) (rs : List Record) → records_bytes rs ≡ rest → (length rest ≡ 0 → ⊥) → (r : Record) × (later : List Record) × (rs ≡ r ∷ later)
unfolding records_bytes
some_left rest [] e more = absurd (more (sym (ap length e)))
some_left rest (r ∷ later) e more = (r, later, refl)

pub none_left : {rest whole mem : List ℕ} {place : ℕ} → Left rest whole mem place → length rest ≡ 0 → mem ≡ whole
unfolding records_bytes records_fields pointed
none_left {rest} {mem = mem} {place} l e = go l.records l.bytes ∙ sym l.left
  where
    go : (rs : List Record) → records_bytes rs ≡ rest → mem ≡ laying mem place rs
    go [] b = refl
    go (r ∷ rs) b = absurd (omega (arith, ap length b, length_read r (records_bytes rs)))

module _ (r : Record) (later : List Record) where
  -- the bytes of this record and of those after it
  abbrev t : List ℕ
  t = record_bytes r ++ records_bytes later

  length_record : length (record_bytes r) ≡ 4 + 2 * length r.numbers
  length_record = omega (arith, length_field_bytes (r.token ∷ length r.numbers ∷ r.numbers))

  -- its count and numbers stand after its token
  spelled : fields (drop 2 (take (4 + 2 * length r.numbers) t)) ≡ record_fields r
  unfolding field_bytes
  spelled = rw (take_at (record_bytes r) (records_bytes later) (4 + 2 * length r.numbers) length_record) (bytes_fields (record_fields r))

  first_of : {whole mem : List ℕ} {place token count : ℕ} → Every (ValidRecord 4096) (r ∷ later) → place + length (records_fields (r ∷ later)) ≤ 12288 →
      whole ≡ laying mem place (r ∷ later) → token ≡ field_in t 0 → count ≡ field_in t 2 → First t whole mem place token count
  first_of {mem = mem} {place} each fits left tk ct =
      let long = length_read r (records_bytes later) in
      let token_is = field_inside t 0 (omega (arith, long)) tk ∙ token_read r (records_bytes later) in
      let count_is = field_inside t 2 (omega (arith, long)) ct ∙ count_read r (records_bytes later) in
      let room : place + (1 + length r.numbers) + length (records_fields later) ≤ 12288 = unfold records_fields in omega (arith, length-append (record_fields r) (records_fields later)) in
      rw (token_is, count_is)
      (record {
        small = each.0.entered;
        room = omega arith;
        inside = omega (arith, long);
        next = rw (spelled, drop_at (record_bytes r) (records_bytes later) (4 + 2 * length r.numbers) length_record)
            (record { records = later; bytes = refl; each = each.1; fits = room; left = left ∙ laying_turn mem place r later fits });
      })

pub first : {rest whole mem : List ℕ} {place token count : ℕ} → Left rest whole mem place → (length rest ≡ 0 → ⊥) →
    token ≡ field_in rest 0 → count ≡ field_in rest 2 → First rest whole mem place token count
unfolding records_bytes
first {rest} {whole} {mem} {place} {token} {count} l more =
    let (r, later, is) = some_left rest l.records l.bytes more in
    let bytes : record_bytes r ++ records_bytes later ≡ rest = rw is at l.bytes in
    let P : List ℕ → Type 0 = λ s. token ≡ field_in s 0 → count ≡ field_in s 2 → First s whole mem place token count in
    subst P bytes (first_of r later (rw is at l.each) (rw is at l.fits) (rw is at l.left))
