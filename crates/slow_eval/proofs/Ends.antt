-- The ends of runs, one after another.
use Rattle.std.proofs.Common.{◌≡◌, ◌≤◌, refl, sym, ap, ◌∙◌, subst, ℕ, ℤ, List, length, All, Result, Ok, Err, IfOk, OnOk}
use Rattle.ws_base.specs.declared.fault.Fault.{Fault}
use Rattle.ws_base.specs.Outcomes.{◌>>=◌}
use Rattle.ws_space.specs.declared.state.State.{State}
use Rattle.ws_space.specs.declared.state.Var.{Var}
use Rattle.ws_space.specs.declared.state.VarState.TheVariants.{Scalar}
use Rattle.ws_space.specs.Values.{Name, with_state}
use Rattle.ws_space.specs.Runs.{Run, run_of, after_state, and_then}
use Rattle.array_meaning.specs.declared.world.World.{World}
use Rattle.array_meaning.specs.declared.world.Source.{Source}
use Rattle.array_meaning.specs.Program.{changed, with_vars_of}
use Rattle.term_eval.specs.Limits.{IsWorld, IsVar, IsInteger}
use Rattle.step_eval.specs.declared.halt.Halt.{Halt}
use Rattle.step_eval.specs.declared.halt.Halt.TheVariants.{Memory, Faulted}
use Rattle.slow_eval.specs.declared.machine.Machine.{Machine}
use Rattle.step_eval.specs.Halts.{Halts, Leaves}
use Rattle.slow_eval.specs.Machine.{state, source, IsReady, GoesOn, SameButCounts}
use Rattle.step_eval.proofs.KeptLimits.{vars_held}
use Rattle.slow_eval.proofs.SameNames.{KeepsNames}

-- ---- and_then

pub end_then : (r : Run) (f : State → Run) (s : State) → r.end ≡ Ok s → (and_then r f).end ≡ (f s).end
end_then r f s is = ap (λ q. (after_state r.entries q f).end) is

pub end_first : (e : Halt) (r : Run) (f : State → Run) → Halts e r.end → Halts e (and_then r f).end
end_first Memory r f h = tt
end_first (Faulted x) r f h = ap (λ q. (after_state r.entries q f).end) h

pub same_halts : (e : Halt) (a b : Result State Fault) → a ≡ b → Halts e a → Halts e b
same_halts e a b is h = let P : Result State Fault → Type 0 = λ q. Halts e q in subst P is h

pub known_of : {A E : Type 0} (r : Result A E) (P : A → Type 0) (x : A) → r ≡ Ok x → IfOk r P → P x
known_of {A = A} {E = E} r P x is h = let Q : Result A E → Type 0 = λ q. IfOk q P in subst Q is h

pub same_leaves : {A B : Type 0} (res : Result B Halt) (a b : Result A Fault) (left : A) → a ≡ b → Leaves res a left → Leaves res b left
same_leaves {A = A} res a b left is h = let P : Result A Fault → Type 0 = λ q. Leaves res q left in subst P is h

module _ {B : Type 0} where
  pub leaves_then : (res : Result B Halt) (r : Run) (f : State → Run) (s left : State) → r.end ≡ Ok s → Leaves res (f s).end left → Leaves res (and_then r f).end left
  leaves_then res r f s left is h = same_leaves res (f s).end (and_then r f).end left (sym (end_then r f s is)) h

  -- ---- what has changed in the world

  pub leaves_changed : (res : Result B Halt) (r : Result World Fault) (s : State) (w : World) → Leaves res r w → Leaves res (changed s r) (with_vars_of s w)
  leaves_changed (Ok x) r s w h = ap (changed s) h
  leaves_changed (Err Memory) r s w h = tt
  leaves_changed (Err (Faulted f)) r s w h = ap (changed s) h

  pub changed_goes_on : (input : List ℕ) (old : Machine) (w : World) (res : Result B Halt) (r : Result World Fault) → IsReady input old → IfOk r (KeepsNames old.world) → Leaves res r w → OnOk res (IsWorld w) → OnOk res (GoesOn input old (record old { world = w }))
  changed_goes_on input old w (Ok x) r ready names h kept =
      let k : KeepsNames old.world w = known_of r (KeepsNames old.world) w h names in
      record {
        ready = record { world = kept; within = ready.within };
        source = ap (λ cs. record { constants = cs; allocatables = w.allocatables; input = input }) k.constants ∙ ap (λ ns. record { constants = old.world.constants; allocatables = ns; input = input }) k.allocatables;
      }
  changed_goes_on input old w (Err e) r ready names h kept = tt

-- ---- machines

pub stays_on : (input : List ℕ) (m : Machine) → IsReady input m → GoesOn input m m
stays_on input m ready = record { ready = ready; source = refl }

pub goes_further : (input : List ℕ) (a b c : Machine) → GoesOn input a b → GoesOn input b c → GoesOn input a c
goes_further input a b c g h = record { ready = h.ready; source = h.source ∙ g.source }

pub on_further : {B : Type 0} (res : Result B Halt) (input : List ℕ) (a b c : Machine) → GoesOn input a b → OnOk res (GoesOn input b c) → OnOk res (GoesOn input a c)
on_further (Ok x) input a b c g h = goes_further input a b c g h
on_further (Err e) input a b c g h = tt

pub counts_go_on : (input : List ℕ) (old new : Machine) → IsReady input old → SameButCounts old new → GoesOn input old new
counts_go_on input old new ready h = record {
  ready = record { world = let P : World → Type 0 = IsWorld in subst P (sym h.world) ready.world; within = let P : ℕ → Type 0 = λ n. n ≤ length input in subst P (sym h.read_to) ready.within };
  source = ap (λ w. record { constants = w.constants; allocatables = w.allocatables; input = input }) h.world;
}

pub scalar_goes_on : {B E : Type 0} (res : Result B E) (input : List ℕ) (m : Machine) (x : Name) (z y : ℤ) (vs : List Var) → y ≡ z → IsInteger z → IsReady input m → OnOk res (vs ≡ with_state m.world.vars x (Scalar y)) →
    OnOk res (GoesOn input m (record m { world = record m.world { vars = vs } }))
scalar_goes_on (Ok r) input m x z y vs same integer ready is =
    let P : List Var → Type 0 = λ l. All IsVar l in
    record {
      ready = record { world = record { vars = subst P (sym (is ∙ ap (λ v. with_state m.world.vars x (Scalar v)) same)) (vars_held m.world.vars x (Scalar z) ready.world.vars integer); constants = ready.world.constants }; within = ready.within };
      source = refl;
    }
scalar_goes_on (Err e) input m x z y vs same integer ready is = tt

pub reads_on : (input : List ℕ) (m : Machine) (w : World) (n : ℕ) → KeepsNames m.world w → IsWorld w → n ≤ length input → GoesOn input m (record m { world = w; read_to = n })
reads_on input m w n names kept within = record {
  ready = record { world = kept; within = within };
  source = ap (λ cs. record { constants = cs; allocatables = w.allocatables; input = input }) names.constants ∙ ap (λ ns. record { constants = m.world.constants; allocatables = ns; input = input }) names.allocatables;
}

pub world_stays : (old new : Machine) → SameButCounts old new → IsWorld old.world → IsWorld new.world
world_stays old new h w = let P : World → Type 0 = IsWorld in subst P (sym h.world) w
