-- What an opening returns and leaves is what the rules say of it.
use mathlib.Core.Path.{◌≡◌, refl, ap, ◌∙◌}
use mathlib.Core.Bool.{Bool, true, false}
use mathlib.Core.List.{List}
use Prim.Native.Nat.{ℕ, ◌≤◌, ◌<◌}
use lib.Dec.{leb}
use lib.ListN.{length, replicate}
use Rattle.std.specs.Prelude.{Result, Ok, Err}
use Rattle.vocabulary.specs.declared.refusal.Refusal.{Refusal}
use borrow.Author.Tests.{le-leb, lt-leb}
use Rattle.rules.specs.RunState.{Pipeline}
use Rattle.rules.specs.Rounding.{is_base, is_rounding_pipe, lent_fits, open_rounding}
use Rattle.rules.proofs.lists.Tests.{by_test}
use Rattle.rules.proofs.rounding.Steps.{fits_parts}
use Rattle.rounding.proofs.laws.Bases.{base_some, base_none}
use Rattle.rounding.specs.Bases.{base_in}
use Rattle.rounding.specs.Openings.{opened_of, open_of}
use Rattle.rounding.specs.declared.base.Base.{Base}
use Rattle.rounding.specs.declared.Rounding.{Rounding}

-- the same numbers and the same figures
pub opens_as : (plan : Pipeline) (pipe base : ℕ) (cells figures : List ℕ) → plan.pipes ≤ 16 →
    let o = open_of pipe base plan.pipes plan.serial plan.tokens cells figures in
    opened_of o.0 o.1 ≡ open_rounding plan pipe base cells figures
unfolding open_of open_rounding
opens_as plan pipe base cells figures h =
    let few : leb plan.pipes 16 ≡ true = le-leb plan.pipes 16 h in
    by_test (is_rounding_pipe plan.pipes plan.serial pipe)
    (λ p. by_test (is_base base)
    (λ b. by_test (lent_fits plan.tokens cells figures) (λ f. rw (few, p, b, f)) (λ f. rw (few, p, b, f)))
    (λ b. rw (few, p, b)))
    (λ p. rw (few, p))

-- the cases of an opening: what it returns and leaves
module _ (pipe base pipes : ℕ) (serial : List Bool) (tokens : ℕ) (cells figures : List ℕ) where
  abbrev Comes : Result Rounding Refusal → List ℕ → Type 0
  Comes o left = (o ≡ (open_of pipe base pipes serial tokens cells figures).0) × (left ≡ (open_of pipe base pipes serial tokens cells figures).1)

  pub too_many : 16 < pipes → Comes (Err Refusal.RoundingPipe) figures
  unfolding open_of
  too_many h = rw (lt-leb pipes 16 h) (refl, refl)

  module _ (few : pipes ≤ 16) where
    pub no_pipe : is_rounding_pipe pipes serial pipe ≡ false → Comes (Err Refusal.RoundingPipe) figures
    unfolding open_of
    no_pipe p = rw (le-leb pipes 16 few, p) (refl, refl)

    module _ (p : is_rounding_pipe pipes serial pipe ≡ true) where
      pub no_base : {why : Refusal} → Err why ≡ base_in base → Comes (Err why) figures
      unfolding open_of
      no_base e = let n = base_none base e in rw (n.0, le-leb pipes 16 few, p, n.1) (refl, refl)

      module _ {b : Base} (known : Ok b ≡ base_in base) where
        pub unfit : lent_fits tokens cells figures ≡ false → Comes (Err Refusal.Lent) figures
        unfolding open_of
        unfit f = rw (le-leb pipes 16 few, p, base_some base known, f) (refl, refl)

        pub opens : lent_fits tokens cells figures ≡ true → (left : List ℕ) → left ≡ replicate (length figures) 0 →
            Comes (Ok (record { pipe = record { 0 = pipe }; base = base; sum = 0 })) left
        unfolding open_of
        opens f left e =
            let n : length figures ≡ tokens = (fits_parts tokens cells figures f).1 in
            rw (le-leb pipes 16 few, p, base_some base known, f) (refl, e ∙ ap (λ k. replicate k 0) n)
