-- What a passed check tells, and what makes it pass.
use Rattle.std.specs.Prelude.{Ok, Err}
use mathlib.Core.Path.{◌≡◌, refl, sym}
use mathlib.Core.Bool.{Bool, true, false}
use mathlib.Core.List.{List}
use Prim.Native.Nat.{ℕ, ◌+◌, ◌*◌, ◌≤◌, ◌<◌}
use native.Mathlib.Omega.{arith}
use borrow.Author.Tests.{leb-true, ltb-true, eqb-true, eq-eqb}
use lib.Dec.{leb, eqb}
use lib.ListN.{length, get_or}
use Rattle.fields.specs.Bytes.{field_in}
use Rattle.fields.proofs.Fields.{field_inside}
use Rattle.rules.specs.Lists.{must}
use Rattle.plan.specs.Checks.{Check, passed, both}
use Rattle.plan.specs.Trailer.{header_check, trailer_of}
use Rattle.plan.specs.Pipes.{kinds_check, pipes_check}
use Rattle.plan.specs.Records.{token_of, count_of, numbers_of, numbers_from, record_check, records_check}
use Rattle.plan.specs.Reading.{parts_check, check_of, pipe_part, record_part}
use Rattle.plan.specs.declared.trailer.Header.{Header}
use Rattle.vocabulary.specs.declared.refusal.Refusal.{Refusal}
use Rattle.vocabulary.specs.declared.refusal.Refusal.TheVariants.{FileSize, Pipes, Limits, RecordLayout}
use Rattle.rules.proofs.lists.Tests.{tests}

pub failed : (r : Refusal) → Err r ≡ passed → ⊥
failed r e = let z : ◌≡◌ {A = ℕ} 0 1 = cc in omega arith

-- a test that must hold, held, and the further check is passed
pub must_passed : (b : Bool) (r : Refusal) (c : Check) → must b (Err r) c ≡ passed → (b ≡ true) × (c ≡ passed)
must_passed true r c e = (refl, e)
must_passed false r c e = absurd (failed r e)

pub both_passed : (c d : Check) → both c d ≡ passed → (c ≡ passed) × (d ≡ passed)
both_passed (Ok ok) d e = (refl, e)
both_passed (Err r) d e = absurd (failed r e)

-- a refusal is told if a test fails, or if it is told by what follows
pub told_by : (b : Bool) {r : Refusal} {c : Check} → (b ≡ true → Err r ≡ c) → Err r ≡ must b (Err r) c
told_by true f = f refl
told_by false f = refl

-- the record that a list of bytes begins with, where it passes
pub record RecordFacts (tokens floor before : ℕ) (s : List ℕ) : Type 0 where
  pub begun : 4 ≤ length s
  pub ascends : floor ≤ token_of s
  pub entered : token_of s < tokens
  pub some : 1 ≤ count_of s
  pub most : count_of s ≤ 16
  pub whole : 4 + 2 * count_of s ≤ length s
  pub counts : before + count_of s ≤ 8192
  pub numbers : numbers_from (token_of s) 0 (numbers_of s) ≡ passed

pub record_passed : (tokens floor before : ℕ) (s : List ℕ) → record_check tokens floor before s ≡ passed → RecordFacts tokens floor before s
unfolding record_check
record_passed tokens floor before s e =
    let (a, e₁) = must_passed _ _ _ e in
    let (b, e₂) = must_passed _ _ _ e₁ in
    let (c, e₃) = must_passed _ _ _ e₂ in
    let (d, e₄) = must_passed _ _ _ e₃ in
    let (f, e₅) = must_passed _ _ _ e₄ in
    let (g, e₆) = must_passed _ _ _ e₅ in
    let (h, numbers) = must_passed _ _ _ e₆ in
    record {
      begun = leb-true _ _ a;
      ascends = leb-true _ _ b;
      entered = ltb-true _ _ c;
      some = leb-true _ _ d;
      most = leb-true _ _ f;
      whole = leb-true _ _ g;
      counts = leb-true _ _ h;
      numbers = numbers;
    }

-- the same, with its token and count as they were read
pub record RecordRead (tokens floor before : ℕ) (s : List ℕ) (token count : ℕ) : Type 0 where
  pub facts : RecordFacts tokens floor before s
  pub token_is : token ≡ token_of s
  pub count_is : count ≡ count_of s

pub record_read : {tokens floor before : ℕ} {s : List ℕ} {token count : ℕ} → passed ≡ record_check tokens floor before s →
    token ≡ field_in s 0 → count ≡ field_in s 2 → RecordRead tokens floor before s token count
record_read {tokens} {floor} {before} {s} e t n =
    let f = record_passed tokens floor before s (sym e) in
    record { facts = f; token_is = field_inside s 0 (omega (arith, f)) t; count_is = field_inside s 2 (omega (arith, f)) n }

-- a record that breaks the layout
pub record_refused : (tokens floor before : ℕ) (s : List ℕ) →
    (4 ≤ length s → floor ≤ token_of s → token_of s < tokens → 1 ≤ count_of s → count_of s ≤ 16 → 4 + 2 * count_of s ≤ length s → ⊥) →
    Err RecordLayout ≡ record_check tokens floor before s
unfolding record_check
record_refused tokens floor before s broken =
    told_by _ (λ a. told_by _ (λ b. told_by _ (λ c. told_by _ (λ d. told_by _ (λ e. told_by _ (λ f.
    absurd (broken (leb-true _ _ a) (leb-true _ _ b) (ltb-true _ _ c) (leb-true _ _ d) (leb-true _ _ e) (leb-true _ _ f))))))))

pub record_passes : (tokens floor before : ℕ) (s : List ℕ) → RecordFacts tokens floor before s → record_check tokens floor before s ≡ passed
unfolding record_check
record_passes tokens floor before s f = let numbers = sym f.numbers in sym (search tests depth 12)

-- a trailer that passes, in a file of so many bytes
pub record HeaderFacts (h : Header) (size : ℕ) : Type 0 where
  pub parts : h.start + h.pipes + 12 ≡ size
  pub edition : h.edition ≡ 1
  pub some_pipe : 1 ≤ h.pipes
  pub pipes : h.pipes ≤ 16
  pub some_line : 1 ≤ h.lines
  pub lines : h.lines ≤ 32
  pub tokens : h.tokens ≤ 4096

pub header_passed : (h : Header) (size : ℕ) → header_check h size ≡ passed → HeaderFacts h size
unfolding header_check
header_passed header size e =
    let (a, e₁) = must_passed _ _ _ e in
    let (b, e₂) = must_passed _ _ _ e₁ in
    let (c, e₃) = must_passed _ _ _ e₂ in
    let (d, e₄) = must_passed _ _ _ e₃ in
    let (f, e₅) = must_passed _ _ _ e₄ in
    let (g, e₆) = must_passed _ _ _ e₅ in
    let (h, e₇) = must_passed _ _ _ e₆ in
    record {
      parts = eqb-true _ _ a;
      edition = eqb-true _ _ b;
      some_pipe = leb-true _ _ c;
      pipes = leb-true _ _ d;
      some_line = leb-true _ _ f;
      lines = leb-true _ _ g;
      tokens = leb-true _ _ h;
    }

pub header_passes : (h : Header) (size : ℕ) → HeaderFacts h size → header_check h size ≡ passed
unfolding header_check
header_passes h size f = sym (search tests depth 12)

-- a trailer whose numbers are beyond their ranges
pub header_refused : (h : Header) (size : ℕ) → h.start + h.pipes + 12 ≡ size → (HeaderFacts h size → ⊥) → Err Limits ≡ header_check h size
unfolding header_check
header_refused h size e beyond =
    rw (eq-eqb (h.start + h.pipes + 12) size e)
    (told_by _ (λ a. told_by _ (λ b. told_by _ (λ c. told_by _ (λ d. told_by _ (λ f. told_by _ (λ g.
    absurd (beyond (record {
      parts = e;
      edition = eqb-true _ _ a;
      some_pipe = leb-true _ _ b;
      pipes = leb-true _ _ c;
      some_line = leb-true _ _ d;
      lines = leb-true _ _ f;
      tokens = leb-true _ _ g;
    })))))))))

-- a file that passes
pub record FileFacts (file : List ℕ) : Type 0 where
  pub least : 12 ≤ length file
  pub header : HeaderFacts (trailer_of file) (length file)
  pub first : eqb (get_or (pipe_part (trailer_of file) file) 0 0) 83 ≡ true
  pub kinds : kinds_check (pipe_part (trailer_of file) file) ≡ passed
  pub records : records_check (trailer_of file).tokens (trailer_of file).records (record_part (trailer_of file) file) ≡ passed

pub file_passed : (file : List ℕ) → check_of file ≡ passed → FileFacts file
unfolding check_of parts_check pipes_check
file_passed file e =
    let (a, e₁) = must_passed (leb 12 (length file)) FileSize _ e in
    let (b, e₂) = must_passed (leb (length file) 32796) FileSize _ e₁ in
    let (c, e₃) = both_passed _ _ e₂ in
    let (d, records) = both_passed _ _ e₃ in
    let (first, kinds) = must_passed _ Pipes _ d in
    record { least = leb-true _ _ a; header = header_passed _ _ c; first = first; kinds = kinds; records = records }
