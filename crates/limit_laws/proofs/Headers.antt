-- Costs of the expressions of a header, DO, ALLOCATE or READ.
use Rattle.std.proofs.Common.{◌≡◌, refl, ℕ, ◌+◌, ◌*◌, false, List, [], ◌∷◌, ◌++◌, length, All, Option, Some, None, arith}
use Rattle.std.specs.Prelude.{pos}
use Rattle.std.proofs.lemmas.List.Elements.{All-head, All-tail}
use Rattle.ws_tree.specs.declared.expr.Expr.{Expr}
use Rattle.ws_tree.specs.declared.stmt.Index.{Index}
use Rattle.ws_tree.specs.Grammatical.{IsSide, IsOptional, IsIndex}
use Rattle.ws_types.specs.declared.types.Row.{Row}
use Rattle.ws_types.specs.Expressions.{faults}
use Rattle.ws_types.specs.Lists as lists
use Rattle.ws_counts.specs.Counts.{parts_in, reductions_in, wholes_in}
use Rattle.ws_counts.specs.Pieces as p
use Rattle.ws_sema.specs.Statements.{header_faults}
use Rattle.hlfir_ops.specs.declared.kinds.Elem.TheVariants.{I32}
use Rattle.hlfir_ops.specs.declared.op.ValueId.{ValueId}
use Rattle.hlfir_ops.specs.Numbers.{numbers_of}
use Rattle.hlfir_ops.specs.RulesValues.{Value}
use Rattle.lower_values.specs.Scopes.{Scope}
use Rattle.lower_values.specs.Lowerings.{Lowering, done, ◌>>=◌ as ◌then◌}
use Rattle.lower_values.specs.Values.{value}
use Rattle.lower_values.specs.Lists.{stride}
use Rattle.lower_values.specs.Operations.{constant}
use Rattle.lower_constructs.specs.Modules.{triple, triples}
use Rattle.small_laws.proofs.NoFaults.{none_first, none_after}
use Rattle.kind_laws.specs.Standing.{Knows}
use Rattle.kind_laws.specs.Found.{Holds, ScopeIsFound}
use Rattle.kind_laws.specs.Laws.{TypesAreKnown, KindsAreTypes, ValuesAreFound}
use Rattle.kind_laws.proofs.Held.{held-first, held-rest}
use Rattle.limit_laws.proofs.Costs.{size, wholes, Costs}
use Rattle.limit_laws.proofs.Costing.{costs-weaker, spends-done, spends-then}
use Rattle.limit_laws.proofs.Operations.{priced-weaker, priced-costs, priced-constant}
use Rattle.limit_laws.proofs.Pieces.{parts-append, reductions-append, wholes-append}
use Rattle.limit_laws.proofs.Bounded.{Valued, Headed}
use Rattle.limit_laws.proofs.Sides.{side-valued}
use Rattle.limit_laws.proofs.Tallying.{AreValuePieces, both_values, pieces_are}
use Rattle.limit_laws.proofs.Steps.{headed-none, headed-step}

module _ (types : TypesAreKnown) (kinds : KindsAreTypes) (found : ValuesAreFound) (vs : List Value) (t : List Row) (s : Scope) (knows : Knows t s) (here : ScopeIsFound vs s) where
  pub stride-valued : (line n : ℕ) (o : Option Expr) → IsOptional o → lists.given_faults t false line o ≡ [] → Holds vs n (stride o s n).ops → Valued vs (stride o s n) (p.given_pieces t false false o)
  stride-valued line n None i f h = priced-weaker vs (constant I32 (pos 1) s n) 1 0 0 _ _ _ (priced-constant vs I32 (pos 1) s n) (omega arith) (omega arith) (omega arith)
  stride-valued line n (Some e) i f h = side-valued types kinds found vs t false false s knows here line n e i (none_first _ _ f) h

  -- three values
  pub triple-costs : (line n : ℕ) (l u : Expr) (o : Option Expr) → IsSide l → IsSide u → IsOptional o → faults t false line l ≡ [] → faults t false line u ≡ [] → lists.given_faults t false line o ≡ [] → Holds vs n (triple l u o s n).ops →
      Costs vs (triple l u o s n).ops (24 + 27 * parts_in ((p.pieces t false false l ++ p.pieces t false false u) ++ p.given_pieces t false false o)) (reductions_in ((p.pieces t false false l ++ p.pieces t false false u) ++ p.given_pieces t false false o))
      (wholes_in ((p.pieces t false false l ++ p.pieces t false false u) ++ p.given_pieces t false false o))
  unfolding triple
  triple-costs line n l u o il iu io fl fu fo h =
      let pl = p.pieces t false false l in
      let pu = p.pieces t false false u in
      let po = p.given_pieces t false false o in
      let m = n + numbers_of (value l s n).ops in
      let k = m + numbers_of (value u s m).ops in
      let x = (value l s n).made in
      let y = (value u s m).made in
      let z = (stride o s k).made in
      let h1 = held-rest vs (value l) (λ a. value u then (λ b. stride o then (λ c. done (a.value ∷ b.value ∷ c.value ∷ [])))) s n h in
      let h2 = held-rest vs (value u) (λ b. stride o then (λ c. done (x.value ∷ b.value ∷ c.value ∷ []))) s m h1 in
      costs-weaker vs _ _ _ _ (24 + 27 * parts_in ((pl ++ pu) ++ po)) (reductions_in ((pl ++ pu) ++ po)) (wholes_in ((pl ++ pu) ++ po))
      (spends-then vs (value l) (λ a. value u then (λ b. stride o then (λ c. done (a.value ∷ b.value ∷ c.value ∷ [])))) s n (8 + 27 * parts_in pl) (reductions_in pl) (wholes_in pl) ((8 + 27 * parts_in pu) + ((8 + 27 * parts_in po) + 0)) (reductions_in pu + (reductions_in po + 0)) (wholes_in pu + (wholes_in po + 0))
      (priced-costs vs _ _ _ _ (side-valued types kinds found vs t false false s knows here line n l il fl (held-first vs (value l) (λ a. value u then (λ b. stride o then (λ c. done (a.value ∷ b.value ∷ c.value ∷ [])))) s n h)))
      (spends-then vs (value u) (λ b. stride o then (λ c. done (x.value ∷ b.value ∷ c.value ∷ []))) s m (8 + 27 * parts_in pu) (reductions_in pu) (wholes_in pu) ((8 + 27 * parts_in po) + 0) (reductions_in po + 0) (wholes_in po + 0)
      (priced-costs vs _ _ _ _ (side-valued types kinds found vs t false false s knows here line m u iu fu (held-first vs (value u) (λ b. stride o then (λ c. done (x.value ∷ b.value ∷ c.value ∷ []))) s m h1)))
      (spends-then vs (stride o) (λ c. done (x.value ∷ y.value ∷ c.value ∷ [])) s k (8 + 27 * parts_in po) (reductions_in po) (wholes_in po) 0 0 0
      (priced-costs vs _ _ _ _ (stride-valued line k o io fo (held-first vs (stride o) (λ c. done (x.value ∷ y.value ∷ c.value ∷ [])) s k h2)))
      (spends-done vs (x.value ∷ y.value ∷ z.value ∷ []) s (k + numbers_of (stride o s k).ops)))))
      (omega (arith, parts-append (pl ++ pu) po, parts-append pl pu)) (omega (arith, reductions-append (pl ++ pu) po, reductions-append pl pu)) (omega (arith, wholes-append (pl ++ pu) po, wholes-append pl pu))

  pub triple-length : (n : ℕ) (l u : Expr) (o : Option Expr) → length (triple l u o s n).made ≡ 3
  unfolding triple ◌then◌ done
  triple-length n l u o = refl

  triple-headed : (n : ℕ) (x : Index) → Costs vs (triple x.l x.u x.s s n).ops (24 + 27 * parts_in ((p.pieces t false false x.l ++ p.pieces t false false x.u) ++ p.given_pieces t false false x.s)) (reductions_in ((p.pieces t false false x.l ++ p.pieces t false false x.u) ++ p.given_pieces t false false x.s))
      (wholes_in ((p.pieces t false false x.l ++ p.pieces t false false x.u) ++ p.given_pieces t false false x.s)) → Headed vs (triple x.l x.u x.s s n) 0 (p.index_pieces t x)
  triple-headed n x c = record { light = c.light; size = omega (arith, c.size, triple-length n x.l x.u x.s); reductions = omega (arith, c.reductions); wholes = omega (arith, c.wholes) }

  pub header-costs : (names : List Row) (line n : ℕ) (before is : List Index) → All IsIndex is → header_faults names t line before is ≡ [] → Holds vs n (triples is s n).ops → Headed vs (triples is s n) 0 (p.indexes_pieces t is)
  unfolding triples
  header-costs names line n before [] i f h = headed-none vs s n
  header-costs names line n before (x ∷ is) i f h =
      let q : Lowering (List ValueId) = triple x.l x.u x.s in
      let m = n + numbers_of (q s n).ops in
      let formed = All-head IsIndex x is i in
      let h1 = held-rest vs q (λ us. triples is then (λ bs. done (us ++ bs))) s n h in
      headed-step vs s n q (triples is) 0 0 (p.index_pieces t x) (p.indexes_pieces t is)
      (triple-headed n x (triple-costs line n x.l x.u x.s formed.0 formed.1 formed.2
      (none_first _ _ (none_after _ _ (none_first _ _ (none_first _ _ (none_first _ _ f)))))
      (none_first _ _ (none_after _ _ (none_first _ _ (none_first _ _ f))))
      (none_after _ _ (none_first _ _ f))
      (held-first vs q (λ us. triples is then (λ bs. done (us ++ bs))) s n h)))
      (header-costs names line m (before ++ x ∷ []) is (All-tail IsIndex x is i) (none_after _ _ f) (held-first vs (triples is) (λ bs. done ((q s n).made ++ bs)) s m h1))

-- ---- pieces of values

pub given_are : (t : List Row) (o : Option Expr) → AreValuePieces false (p.given_pieces t false false o)
given_are t None = tt
given_are t (Some e) = pieces_are t false false e

pub indexes_are : (t : List Row) (is : List Index) → AreValuePieces false (p.indexes_pieces t is)
indexes_are t [] = tt
indexes_are t (i ∷ is) =
    both_values false (p.index_pieces t i) (p.indexes_pieces t is)
    (tt, both_values false (p.pieces t false false i.l ++ p.pieces t false false i.u) (p.given_pieces t false false i.s) (both_values false (p.pieces t false false i.l) (p.pieces t false false i.u) (pieces_are t false false i.l) (pieces_are t false false i.u)) (given_are t i.s))
    (indexes_are t is)
