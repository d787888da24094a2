-- A whole list of choices, as the moves that it makes.
use mathlib.Core.Path.{◌≡◌, refl}
use mathlib.Core.List.{List, [], ◌∷◌}
use Prim.Native.Nat.{ℕ}
use lib.ListN.{get_or}
use Rattle.rules.specs.RunState.{Pipeline}
use Rattle.rules.specs.Sources.{Source}
use Rattle.rules.specs.Choices.{Choice, Answer, Started, Finished, Stopped, Refused, choose_by, answers, follow}
use Rattle.rules.proofs.standing.Standing.{Standing, begin, finish}
use Rattle.rules.proofs.invariant.Invariant.{Allowed, State, whole, Inv}
use Rattle.rules.proofs.choices.Moves.{Stops, Enters, Starts, Finishes, Next, stops, enters, starts, finishes}
use Rattle.rules.proofs.choices.Steps.{Step, refuses, moves, step}

module _ {X : Type 0} (S : Source X) (plan : Pipeline) (workers : ℕ) (order : List ℕ) (z : X) where
  -- the answers that lead from a state to the state `end`, each with what it did
  pub data Trace (end : State X) (last : Standing) : State X → Standing → List Answer → Type 0 where
    rests : Inv S plan workers order z end last → Trace end last end last []
    refused : {st : State X} {g : Standing} {rest : List Answer} (n : ℕ) → (n ≡ 14 → ⊥) →
        Trace end last st g rest → Trace end last st g (Refused n ∷ rest)
    stopped : {st st' : State X} {g : Standing} {rest : List Answer} {w : ℕ} (l : ℕ) → Inv S plan workers order z st g → Stops plan order st g l st' →
        Trace end last st' (begin g l) rest → Trace end last st g (Stopped l w ∷ rest)
    entered : {st st' : State X} {g : Standing} {rest : List Answer} {w : ℕ} (l : ℕ) → Inv S plan workers order z st g → Enters plan order st g l st' →
        Trace end last st' (begin g l) rest → Trace end last st g (Started l 0 (get_or order (g.place l) 0) (g.place l) w ∷ rest)
    started : {st st' : State X} {g : Standing} {rest : List Answer} {w : ℕ} (l : ℕ) → Inv S plan workers order z st g → Starts plan order st g l st' →
        Trace end last st' (begin g l) rest → Trace end last st g (Started l (g.pipe l) (get_or order (g.place l) 0) (g.place l) w ∷ rest)
    finished : {st st' : State X} {g : Standing} {rest : List Answer} {w : ℕ} (l : ℕ) → Inv S plan workers order z st g → Finishes plan order st g l st' →
        Trace end last st' (finish plan g l) rest → Trace end last st g (Finished l (g.pipe l) (get_or order (g.place l) 0) (g.place l) w ∷ rest)

  -- where a list of choices leads, and how
  pub record Ran (st : State X) (g : Standing) (cs : List Choice) : Type 0 where
    pub end : State X
    pub last : Standing
    pub is : follow S (whole plan workers st) cs ≡ whole plan workers end
    pub trace : Trace end last st g (answers S (whole plan workers st) cs)
    pub kept : Inv S plan workers order z end last

module _ {X : Type 0} {S : Source X} {plan : Pipeline} {workers : ℕ} {order : List ℕ} {z : X} where
  -- no choice leads nowhere
  stays : (st : State X) (g : Standing) → Inv S plan workers order z st g → Ran S plan workers order z st g []
  unfolding follow answers
  stays st g inv = record { end = st; last = g; is = refl; trace = rests inv; kept = inv }

  -- one choice before a list of choices
  module _ (c : Choice) (cs : List Choice) (go : (st : State X) (g : Standing) → Inv S plan workers order z st g → Ran S plan workers order z st g cs)
      (st : State X) (g : Standing) (inv : Inv S plan workers order z st g) where
    -- a choice that is known, and then the others
    then : (a : Answer) (st' : State X) (g' : Standing) → Next S plan workers order z (choose_by S (whole plan workers st) c) a st' g' →
        ((end : State X) (last : Standing) (rest : List Answer) →
        Trace S plan workers order z end last st' g' rest → Trace S plan workers order z end last st g (a ∷ rest)) →
        Ran S plan workers order z st g (c ∷ cs)
    unfolding follow answers
    then a st' g' n more =
        let r : Ran S plan workers order z st' g' cs = go st' g' n.kept in
        record {
          end = r.end;
          last = r.last;
          is = rw n.is r.is;
          trace = rw n.is (more r.end r.last _ r.trace);
          kept = r.kept;
        }

    one_more : Step S plan workers order z st g c.worker c.line (choose_by S (whole plan workers st) c) → Ran S plan workers order z st g (c ∷ cs)
    one_more (refuses n h e) = then (Refused n) st g (record { is = e; kept = inv }) (λ end last rest t. refused n h t)
    one_more (moves (stops st' f n)) = then _ st' (begin g c.line) n (λ end last rest t. stopped c.line inv f t)
    one_more (moves (enters st' f n)) = then _ st' (begin g c.line) n (λ end last rest t. entered c.line inv f t)
    one_more (moves (starts st' f n)) = then _ st' (begin g c.line) n (λ end last rest t. started c.line inv f t)
    one_more (moves (finishes st' f n)) = then _ st' (finish plan g c.line) n (λ end last rest t. finished c.line inv f t)

  -- every list of choices leads somewhere, by moves
  pub ran : Allowed plan workers order → (cs : List Choice) (st : State X) (g : Standing) → Inv S plan workers order z st g → Ran S plan workers order z st g cs
  ran ok [] st g inv = stays st g inv
  ran ok (c ∷ cs) st g inv = one_more c cs (ran ok cs) st g inv (step ok inv c.worker c.line)
