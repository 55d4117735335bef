-- Constructs, by induction on the tree.
use Rattle.std.proofs.Common.{◌≡◌, refl, ap, ◌∙◌, ℕ, ◌+◌, true, false, ◌&&◌, nat_lt, List, [], ◌∷◌, ◌++◌, length, All, Option, Some, None, arith}
use Rattle.std.specs.Prelude.{⊤}
use Rattle.std.proofs.lemmas.List.Elements.{All-head, All-tail}
use Rattle.std.specs.List.{AllByRecursion}
use mathlib.Core.Former.{Count}
use Rattle.ws_base.specs.declared.name.Name.{Name}
use Rattle.ws_tree.specs.declared.expr.Expr.{Expr}
use Rattle.ws_tree.specs.declared.stmt.Index.{Index}
use Rattle.ws_tree.specs.declared.stmt.Else.{Else'}
use Rattle.ws_tree.specs.Trees.{Elses, end_elses, more_elses}
use Rattle.ws_tree.specs.Grammatical.{IsSide, IsOptional, IsIndex}
use Rattle.ws_types.specs.declared.types.Row.{Row}
use Rattle.ws_types.specs.Expressions.{faults}
use Rattle.ws_types.specs.Lists.{given_faults}
use Rattle.ws_types.specs.Tables.{inner}
use Rattle.ws_sema.specs.Statements.{header_faults, forall_mask_faults, deallocations_faults, deallocation_faults}
use Rattle.ws_sema.proofs.NoFaults.{none_first, none_after}
use Rattle.hlfir_ops.specs.declared.what.What.TheVariants as what
use Rattle.hlfir_ops.specs.declared.op.Region.{out-roll-Region}
use Rattle.hlfir_ops.specs.Numbers.{numbers_of}
use Rattle.hlfir_ops.specs.RulesValues.{Value}
use Rattle.lower_values.specs.Scopes.{Scope, inside}
use Rattle.lower_values.specs.Lowerings.{Lowering, done, ◌>>=◌, statement_of}
use Rattle.lower_values.specs.Values.{value}
use Rattle.lower_values.specs.Lists.{stride}
use Rattle.lower_assign.specs.Statements.{yielded}
use Rattle.lower_constructs.specs.Modules.{triple, triples, forall_mask, third, elsewhere, elsewheres}
use Rattle.form_laws.proofs.Stages.{Stage, stage-region}
use Rattle.form_laws.proofs.Regions.{Walks, walks-done, walks-then, walks-scoped, walks-yielded, RegionWalks, walks-statement}
use Rattle.form_laws.proofs.Sides.{walks-side, walks-stride}

-- ---- lists of items

pub names_of : (t : List Row) (line : ℕ) (xs : List Name) → deallocations_faults t line xs ≡ [] → AllByRecursion (λ x. deallocation_faults t line x ≡ []) xs
names_of t line [] f = tt
names_of t line (x ∷ xs) f = (none_first _ _ f, names_of t line xs (none_after _ _ f))

-- ---- an ELSEWHERE gives an op

some_op : {n : Count} (line : ℕ) (mask : Option Expr) (c : _) (block : _) (rest : Elses n) (s : Scope) (k : ℕ) → nat_lt 0 (length (elsewheres (more_elses (Else' line mask c block) rest) s k).ops) ≡ true
unfolding ◌>>=◌ statement_of
some_op line (Some e) c block rest s k = grind arith
some_op line None c block rest s k = grind arith

module _ (vs : List Value) where
  -- ---- headers

  module _ (t : List Row) (s : Scope) (h : Stage vs t s) (line : ℕ) where
    pub walks-triple : (l u : Expr) (step : Option Expr) → IsSide l → IsSide u → IsOptional step → faults t false line l ≡ [] → faults t false line u ≡ [] → given_faults t false line step ≡ [] → Walks vs s (triple l u step)
    unfolding triple
    walks-triple l u step a b c f g e =
        walks-then vs s (value l) (λ x. value u >>= (λ y. stride step >>= (λ z. done (x.value ∷ y.value ∷ z.value ∷ [])))) (walks-side vs t s h false line l a f)
        (λ x. walks-then vs s (value u) (λ y. stride step >>= (λ z. done (x.value ∷ y.value ∷ z.value ∷ []))) (walks-side vs t s h false line u b g)
        (λ y. walks-then vs s (stride step) (λ z. done (x.value ∷ y.value ∷ z.value ∷ [])) (walks-stride vs t s h false line step c e) (λ z. walks-done vs s (x.value ∷ y.value ∷ z.value ∷ []))))

    -- `t` is the table that bars the index names
    pub walks-triples : (outer : List Row) (before is : List Index) → All IsIndex is → header_faults outer t line before is ≡ [] → Walks vs s (triples is)
    unfolding triples
    walks-triples outer before [] g f = walks-done vs s []
    walks-triples outer before (i ∷ is) g f =
        let here = All-head IsIndex i is g in
        let step = none_first _ _ f in
        let upper = none_first _ _ step in
        let lower = none_first _ _ upper in
        walks-then vs s (triple i.l i.u i.s) (λ us. triples is >>= (λ ws. done (us ++ ws)))
        (walks-triple i.l i.u i.s here.0 here.1 here.2 (none_first _ _ (none_after _ _ lower)) (none_first _ _ (none_after _ _ upper)) (none_after _ _ step))
        (λ us. walks-then vs s (triples is) (λ ws. done (us ++ ws)) (walks-triples outer (before ++ i ∷ []) is (All-tail IsIndex i is g) (none_after _ _ f)) (λ ws. walks-done vs s (us ++ ws)))

    pub walks-forall_mask : (mask : Option Expr) → IsOptional mask → forall_mask_faults t line mask ≡ [] → Walks vs s (forall_mask mask)
    unfolding forall_mask
    walks-forall_mask None g f = walks-done vs s tt
    walks-forall_mask (Some e) g f =
        walks-scoped vs s (λ c. statement_of what.ForallMask c.line [] (yielded (value e) ∷ []))
        (walks-statement vs what.ForallMask s.line [] (yielded (value e) ∷ []) s refl (λ n. refl) (
          (λ m names. let c = inside what.ForallMask s.line 0 m s in walks-yielded vs c (value e) (walks-side vs t c (stage-region vs t s h what.ForallMask s.line 0 m refl names) true line e g (none_first _ _ f))),
          tt,
        ))

  -- ---- WHERE, where its parts walk

  pub walks-masked : {m : Count} (line : ℕ) (test block : Lowering ⊤) (rest : Elses m) (s : Scope) → RegionWalks vs what.Masked line 0 test s → RegionWalks vs what.Masked line 1 block s → RegionWalks vs what.Masked line 2 (elsewheres rest) s →
      Walks vs s (statement_of what.Masked line [] (test ∷ block ∷ third rest (elsewheres rest)))
  walks-masked line test block end_elses s a b c = walks-statement vs what.Masked line [] (test ∷ block ∷ []) s refl (λ n. refl) (a, (b, tt))
  walks-masked line test block (more_elses (Else' own mask h inner) rest) s a b c =
      let p = elsewheres (more_elses (Else' own mask h inner) rest) in
      walks-statement vs what.Masked line [] (test ∷ block ∷ p ∷ []) s refl
      (λ n.
      let n1 = n + (0 + numbers_of (test (inside what.Masked line 0 n s) (n + 0)).ops) in
      let n2 = n1 + (0 + numbers_of (block (inside what.Masked line 1 n1 s) (n1 + 0)).ops) in
      let ops = (p (inside what.Masked line 2 n2 s) (n2 + 0)).ops in
      ap (λ r. ((nat_lt 0 (length r.ops)) && true) && true) (out-roll-Region (record { ops = ops })) ∙ ap (λ b. (b && true) && true) (some_op own mask h inner rest (inside what.Masked line 2 n2 s) (n2 + 0)))
      (a, (b, (c, tt)))

  pub walks-elsewhere : (line : ℕ) (mask : Option Expr) (block : Lowering ⊤) (s : Scope) → ((e : Expr) → mask ≡ Some e → RegionWalks vs what.Elsewhere line 0 (yielded (value e)) s) → ((k : ℕ) → RegionWalks vs what.Elsewhere line k block s) → Walks vs s (elsewhere line mask block)
  walks-elsewhere line (Some e) block s a b = walks-statement vs what.Elsewhere line [] (yielded (value e) ∷ block ∷ []) s refl (λ n. refl) (a e refl, (b 1, tt))
  walks-elsewhere line None block s a b = walks-statement vs what.Elsewhere line [] (block ∷ []) s refl (λ n. refl) (b 0, tt)
