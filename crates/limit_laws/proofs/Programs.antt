-- The statements of a program, outside WHERE and FORALL.
use Rattle.std.proofs.Common.{◌≡◌, refl, sym, ap, ◌∙◌, subst, ℕ, ◌+◌, ◌*◌, ◌≤◌, ◌&&◌, max, Bool, true, false, List, [], ◌∷◌, ◌++◌, Option, None, arith, true≢false}
use Rattle.ws_base.specs.declared.name.Name.{Name}
use Rattle.ws_base.specs.declared.refusal.RefusalKind.TheVariants as refusal
use Rattle.ws_tree.specs.declared.expr.Expr.{Expr}
use Rattle.ws_tree.specs.declared.stmt.Body.{Body}
use Rattle.ws_types.specs.declared.types.Row.{Row}
use Rattle.ws_counts.specs.declared.tally.Piece.{Piece}
use Rattle.ws_counts.specs.Counts.{parts_in, reductions_in, wholes_in, steps_from, statement_steps}
use Rattle.ws_counts.specs.Limits.{all_phases, all_temporaries, own_steps_faults, statement_faults, steps_faults, expressions_faults, loop_pieces}
use Rattle.ws_counts.specs.Pieces as p
use Rattle.ws_counts.proofs.Steps.{statement_steps_are}
use Rattle.ws_sema.specs.declared.within.Within.{Within}
use Rattle.ws_sema.specs.declared.within.Within.TheVariants as within
use Rattle.ws_sema.specs.Statements.{is_inside, is_masked, is_shared, serial_faults}
use Rattle.hlfir_ops.specs.declared.what.What.{What}
use Rattle.hlfir_ops.specs.declared.what.What.TheVariants as what
use Rattle.hlfir_ops.specs.declared.op.ValueId.{ValueId}
use Rattle.hlfir_ops.specs.declared.op.Op.{Op, Op-F, out-Op, out-roll-Op}
use Rattle.hlfir_ops.specs.declared.op.Region.{Region, out-roll-Region}
use Rattle.hlfir_ops.specs.Trees.{op_of, region_of}
use Rattle.hlfir_ops.specs.Numbers.{order_of}
use Rattle.hlfir_ops.specs.RulesValues.{Value}
use Rattle.hlfir_ops.specs.RulesRegions.{ops_in}
use Rattle.hlfir_ops.specs.RulesPlaces.{Around}
use Rattle.hlfir_ops.specs.RulesLimits.{phases_of, temporaries_of}
use Rattle.hlfir_ops.specs.Rules.{own_limits, counts_fit, statement_fits, workshare_fits}
use Rattle.lower_values.specs.Scopes.{Scope}
use Rattle.small_laws.proofs.NoFaults.{none_first, none_after, not_broken}
use Rattle.kind_laws.specs.Laws.{TypesAreKnown, KindsAreTypes, ValuesAreFound}
use Rattle.limit_laws.proofs.Costs.{Costs}
use Rattle.limit_laws.proofs.Passing.{Passing, RegionsPass, passing-none, passing-append, passing-op}
use Rattle.limit_laws.proofs.Walking.{Whole}
use Rattle.limit_laws.proofs.Alike.{Alike}
use Rattle.limit_laws.proofs.AlikeStatements.{statement-alike, loop-alike}
use Rattle.limit_laws.proofs.Measured.{Measured, measured, statement-fits, count-fits}
use Rattle.limit_laws.proofs.Serial as serial
use Rattle.limit_laws.proofs.Serial.{Fits, few-parts, few-phases, few-temporaries, one-fits, AreWithin, within-self, first-region-fits, deallocated, items-read, parts-allocated}

-- ---- sums over statements

phases-append : (xs ys : List (List (List Piece))) → all_phases (xs ++ ys) ≡ all_phases xs + all_phases ys
phases-append [] ys = omega arith
phases-append (x ∷ xs) ys = omega (arith, phases-append xs ys)

temporaries-append : (xs ys : List (List (List Piece))) → all_temporaries (xs ++ ys) ≡ max (all_temporaries xs) (all_temporaries ys)
temporaries-append [] ys = omega arith
temporaries-append (x ∷ xs) ys = omega (arith, temporaries-append xs ys)

-- In a workshare the statements count together.
pub record FitTogether (w : Within) (all : List (List (List Piece))) : Type 0 where
  pub phases : is_shared w ≡ true → all_phases all ≤ 512
  pub temporaries : is_shared w ≡ true → all_temporaries all ≤ 64

pub together-first : (w : Within) (xs ys : List (List (List Piece))) → FitTogether w (xs ++ ys) → FitTogether w xs
together-first w xs ys h = record { phases = λ is. omega (arith, h.phases is, phases-append xs ys); temporaries = λ is. omega (arith, h.temporaries is, temporaries-append xs ys) }

pub together-rest : (w : Within) (xs ys : List (List (List Piece))) → FitTogether w (xs ++ ys) → FitTogether w ys
together-rest w xs ys h = record { phases = λ is. omega (arith, h.phases is, phases-append xs ys); temporaries = λ is. omega (arith, h.temporaries is, temporaries-append xs ys) }

own_fit : (b : Bool) (line : ℕ) (ss : List (List Piece)) → own_steps_faults b line ss ≡ [] → (b ≡ true → all_phases (ss ∷ []) ≤ 512) → (b ≡ true → all_temporaries (ss ∷ []) ≤ 64) → Fits ss
own_fit true line ss f hp ht = record { phases = omega (arith, hp refl); temporaries = omega (arith, ht refl) }
own_fit false line ss f hp ht = one-fits line ss f

pub not_inside : (w : Within) → is_masked w ≡ false → is_inside w ≡ false
not_inside within.Forall h = h
not_inside (within.Masked line rank) h = refl
not_inside within.Shared h = refl
not_inside within.Outside h = refl

pub not_shared : (w : Within) (line : ℕ) → serial_faults w line ≡ [] → is_shared w ≡ false
unfolding serial_faults
not_shared w line f = not_broken (is_shared w) line refusal.NotInWorkshare f

module _ (types : TypesAreKnown) (kinds : KindsAreTypes) (found : ValuesAreFound) (vs : List Value) where
  -- ops that keep the limits, and in a workshare count no more than these steps
  pub record Runs (w : Within) (a : Around) (ops : List Op) (all : List (List (List Piece))) : Type 0 where
    pub passing : Passing vs a ops
    pub phases : is_shared w ≡ true → phases_of vs ops ≤ all_phases all
    pub temporaries : is_shared w ≡ true → temporaries_of vs ops ≤ all_temporaries all

  op_phases-append : (xs ys : List Op) → phases_of vs (xs ++ ys) ≡ phases_of vs xs + phases_of vs ys
  op_phases-append [] ys = omega arith
  op_phases-append (x ∷ xs) ys = omega (arith, op_phases-append xs ys)

  op_temporaries-append : (xs ys : List Op) → temporaries_of vs (xs ++ ys) ≡ max (temporaries_of vs xs) (temporaries_of vs ys)
  op_temporaries-append [] ys = omega arith
  op_temporaries-append (x ∷ xs) ys = omega (arith, op_temporaries-append xs ys)

  pub runs-none : (w : Within) (a : Around) → Runs w a [] []
  runs-none w a = record { passing = passing-none vs a; phases = λ is. omega arith; temporaries = λ is. omega arith }

  pub runs-more : (w : Within) (a : Around) (xs ys : List Op) (all more : List (List (List Piece))) → Runs w a xs all → Runs w a ys more → Runs w a (xs ++ ys) (all ++ more)
  runs-more w a xs ys all more h g = record {
    passing = passing-append vs a xs ys h.passing g.passing;
    phases = λ is. omega (arith, h.phases is, g.phases is, op_phases-append xs ys, phases-append all more);
    temporaries = λ is. omega (arith, h.temporaries is, g.temporaries is, op_temporaries-append xs ys, temporaries-append all more);
  }

  -- what may stand in no workshare
  pub alone : (w : Within) (a : Around) (ops : List Op) (all : List (List (List Piece))) → is_shared w ≡ false → Passing vs a ops → Runs w a ops all
  alone w a ops all other h = record { passing = h; phases = λ is. absurd (true≢false (sym is ∙ other)); temporaries = λ is. absurd (true≢false (sym is ∙ other)) }

  -- an assignment, WHERE or FORALL
  module _ (w : Within) (a : Around) (op : What) (line : ℕ) (rs : List Region) (ps : List Piece) (ss : List (List Piece)) (is : steps_from [] ps ≡ ss) (whole : Whole vs (order_of (op_of op line [] None rs ∷ [])) ps) (passes : RegionsPass vs a op 0 rs)
      (f : statement_faults (is_shared w) line ss ≡ []) (together : FitTogether w (ss ∷ []))
      (keeps : statement_fits a.masked a.shared vs (op_of op line [] None rs) ≡ true → (before : List Op) → (own_limits a.bodies before op [] None && counts_fit a.masked a.shared vs op (op_of op line [] None rs)) ≡ true) where
    fit : Fits ss
    fit = own_fit (is_shared w) line ss (none_after _ _ f) together.phases together.temporaries

    measures : Measured vs (op_of op line [] None rs) ss
    measures = measured vs op line rs ps ss is whole (few-parts line ss (none_first _ _ f)) fit.phases fit.temporaries

    pub one-runs : Runs w a (op_of op line [] None rs ∷ []) (ss ∷ [])
    one-runs = record {
      passing = passing-op vs a op line [] None rs (keeps (statement-fits vs a.masked a.shared (op_of op line [] None rs) ss measures fit.phases fit.temporaries)) passes;
      phases = λ _. let m = measures.phases in omega (arith, m);
      temporaries = λ _. let m = measures.temporaries in omega (arith, m);
    }

  pub steps_are : (t u : List Row) → Alike t u → (line : ℕ) (b : Body) → steps_from [] (p.statement_pieces t false b) ≡ statement_steps u line b
  steps_are t u h line b = ap (steps_from []) (statement-alike t u h false b) ∙ statement_steps_are u line b

  pub same_within : (ps all : List Piece) → ps ≡ all → AreWithin ps all
  same_within ps all is = subst (AreWithin ps) is (within-self ps)

  -- the first region of a DO
  pub loop_region_fits : (t u : List Row) → Alike t u → (line : ℕ) (x : Name) (l k : Expr) (o : Option Expr) (s : Scope) (ops : List Op) (os : List ValueId) (rs : List Region) →
      Costs vs ops (28 + 27 * parts_in (loop_pieces t l k o)) (reductions_in (loop_pieces t l k o)) (wholes_in (loop_pieces t l k o)) → expressions_faults line (loop_pieces u l k o) ≡ [] →
      counts_fit false false vs what.DoLoop (op_of what.DoLoop line os None (region_of ops ∷ rs)) ≡ true
  loop_region_fits t u h line x l k o s ops os rs costs f =
      let within = same_within (loop_pieces t l k o) (loop_pieces u l k o) (loop-alike t u h l k o) in
      let ok = serial.allowed line (loop_pieces u l k o) f in
      first-region-fits vs what.DoLoop line os ops rs (28 + 27 * parts_in (loop_pieces t l k o)) (loop_pieces t l k o) (loop_pieces u l k o) costs (omega (arith, within.parts, ok.parts)) within ok

  -- the statements of a workshare
  pub share_fits : (line : ℕ) (ops : List Op) (all : List (List (List Piece))) → phases_of vs ops ≤ all_phases all → temporaries_of vs ops ≤ all_temporaries all → steps_faults line all ≡ [] →
      workshare_fits vs (ops_in (out-Op (op_of what.Workshare line [] None (region_of ops ∷ []))).regions 0) ≡ true
  share_fits line ops all hp ht f =
      let whole : Op-F Op Region = record { what = what.Workshare; line = line; operands = []; kind = None; regions = region_of ops ∷ [] } in
      ap (λ g. workshare_fits vs (ops_in g.regions 0)) (out-roll-Op whole) ∙ (ap (λ r. workshare_fits vs r.ops) (out-roll-Region (record { ops = ops }))
      ∙ count-fits vs (phases_of vs ops) (temporaries_of vs ops) (omega (arith, hp, few-phases line all f)) (omega (arith, ht, few-temporaries line all f)))
