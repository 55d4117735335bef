-- Subscripts that stand for their sources are ones that a designator may take.
use Rattle.std.proofs.Common.{◌≡◌, refl, sym, ◌∙◌, subst, inl, inr, ℕ, suc, ◌+◌, ◌==◌, Bool, true, false, List, All, Ok, Err, arith}
use Rattle.std.specs.Prelude.{◌⊎◌, not, ◌&&◌}
use Rattle.std.proofs.lemmas.Bool.{true≢false}
use Rattle.ws_base.specs.Outcomes.{Staged, ◌>>=◌}
use Rattle.ws_tree.specs.declared.expr.Expr.{Expr}
use Rattle.ws_tree.specs.declared.expr.Expr.TheVariants.{Named}
use Rattle.ws_tree.specs.declared.expr.Sub.{Sub}
use Rattle.ws_tree.specs.declared.expr.Sub.TheVariants as sub
use Rattle.ws_tree.specs.Trees.{Subs, end_subs, more_subs, Given, absent, given}
use Rattle.ws_types.specs.Sections.{is_section, is_designator}
use Rattle.array_meaning.specs.declared.world.World.{World}
use Rattle.array_meaning.specs.declared.term.Term.{Term}
use Rattle.array_meaning.specs.declared.term.Term.TheVariants as term
use Rattle.array_meaning.specs.Stage1 as source
use Rattle.hlfir_ops.specs.declared.kinds.ValueKind.{ValueKind}
use Rattle.hlfir_ops.specs.declared.kinds.ValueKind.TheVariants as kind
use Rattle.hlfir_ops.specs.Numbers.{numbers_of}
use Rattle.hlfir_ops.specs.RulesValues.{rank_of}
use Rattle.hlfir_meaning.specs.Environments.{Environment}
use Rattle.lower_values.specs.declared.operand.Operand.{Operand}
use Rattle.lower_values.specs.Scopes.{Scope}
use Rattle.lower_values.specs.Values.{value, subscript}
use Rattle.value_laws.specs.Standing.{Does, Stands, settled, StandsSettled}
use Rattle.value_laws.specs.Arguments as values
use Rattle.value_laws.specs.Arguments.{LeavesAs}
use Rattle.value_laws.specs.Names.{Agrees}
use Rattle.value_laws.specs.Sound.{AreSoundSubs, IsSoundSub, IsSoundGiven}
use Rattle.value_laws.specs.Variables.{IsNamed}
use Rattle.value_laws.proofs.Elementals.{shapes-are}
use Rattle.value_laws.proofs.Named.{name-rank}
use Rattle.value_laws.proofs.Parts.{agrees-kept}
use Rattle.part_laws.specs.Parts.{IsOfRankOne, StandsTaken}
use Rattle.part_laws.specs.Subscripts.{ready, GivenStands, SubscriptStands, SubscriptsStand}
use Rattle.part_laws.proofs.Held.{IsFound}
use Rattle.part_laws.proofs.HeldForms.{section-held}
use Rattle.part_laws.proofs.Taken.{settled-taken, whole-taken}

found-taken : (base low high : ℕ) (env : Environment) (x : Operand) (t : Term) → IsFound x.kind (env x.value.number) → Stands base low high env x t → StandsTaken base low high env x t
found-taken base low high env x (term.Scalar z) found h = (h, tt)
found-taken base low high env x t (inl none) h = absurd (true≢false (sym none ∙ h.rank))
found-taken base low high env x t (inr v) h = (h, (v.held, λ few. subst (All IsOfRankOne) (shapes-are base low high env x t h) (v.dimension few)))

pub named_or_not : (k : ValueKind) → IsNamed k ⊎ (IsNamed k → ⊥)
named_or_not (kind.Declared e shape) = inl tt
named_or_not (kind.Allocatable e rank) = inl tt
named_or_not k = inr (λ h. h)

module _ (vectors : List ℕ) (base : ℕ) (s : Scope) (w : World) where
  -- ---- designators

  module _ (n : ℕ) (env : Environment) where
    abbrev Leaves : Expr → Staged Term → Type 0
    Leaves e r = Does vectors s n env (value e) r (λ x t m after. Stands base n m after x t)

    abbrev Taken : Expr → Staged Term → Type 0
    Taken e r = Does vectors s n env (value e) r (λ x t m after. StandsTaken base n m after x t)

    section_taken : (e : Expr) → is_section e ≡ true → (r : Staged Term) → Leaves e r → Taken e r
    section_taken e is (Ok t) h = (
      h.0,
      h.1,
      found-taken base n (n + numbers_of (value e s n).ops) h.0 (value e s n).made t ((section-held vectors s e is n).found env h.0 (n + numbers_of (value e s n).ops) h.1.walked) h.2,
    )
    section_taken e is (Err t) h = h

    name_taken : (e : Expr) → IsNamed (value e s n).made.kind ⊎ ((rank_of (value e s n).made.kind == 0) ≡ true) → (r : Staged Term) → Leaves e r → Taken e r
    name_taken e (inl named) (Ok t) h = (h.0, h.1, whole-taken base n (n + numbers_of (value e s n).ops) h.0 (value e s n).made t named h.2)
    name_taken e (inr none) (Ok t) h = (h.0, h.1, found-taken base n (n + numbers_of (value e s n).ops) h.0 (value e s n).made t (inl none) h.2)
    name_taken e is (Err t) h = h

    named_or_none : (x : _) → Agrees s.names base w env → IsNamed (value (Named x) s n).made.kind ⊎ ((rank_of (value (Named x) s n).made.kind == 0) ≡ true)
    named_or_none x agrees = by (named_or_not (value (Named x) s n).made.kind)
      where
        by : IsNamed (value (Named x) s n).made.kind ⊎ (IsNamed (value (Named x) s n).made.kind → ⊥) → IsNamed (value (Named x) s n).made.kind ⊎ ((rank_of (value (Named x) s n).made.kind == 0) ≡ true)
        by (inl named) = inl named
        by (inr unnamed) = inr (name-rank s n base env w agrees x unnamed)

    designator_taken : (e : Expr) → is_designator e ≡ true → Agrees s.names base w env → (r : Staged Term) → Leaves e r → Taken e r
    designator_taken (Named x) is agrees r h = name_taken (Named x) (named_or_none x agrees) r h
    designator_taken e is agrees r h = section_taken e is r h

    -- ---- any subscript

    after_nothing : (r : Staged Term) → (r >>= (λ t. let q : Staged Term = Ok t in q)) ≡ r
    after_nothing (Ok t) = refl
    after_nothing (Err t) = refl

    scalar_taken : (e : Expr) → (rank_of (value e s n).made.kind == 0) ≡ true → (r : Staged Term) → Leaves e r → Taken e (r >>= settled)
    scalar_taken e none (Ok t) h = scalar_case t h
      where
        scalar_case : (u : Term) → Leaves e (Ok u) → Taken e (settled u)
        scalar_case (term.Scalar z) g = (g.0, g.1, (g.2, tt))
        scalar_case u g = absurd (true≢false (sym none ∙ g.2.rank))
    scalar_taken e none (Err t) h = h

    settled_taken : (e : Expr) (r : Staged Term) → Does vectors s n env (value e) r (λ x t m after. StandsSettled base n m after x t) → Taken e r
    settled_taken e (Ok t) h = (h.0, h.1, settled-taken base n (n + numbers_of (value e s n).ops) h.0 (value e s n).made t h.2)
    settled_taken e (Err t) h = h

    as_ready : (e : Expr) → Agrees s.names base w env → (c z : Bool) → is_designator e ≡ c → (rank_of (value e s n).made.kind == 0) ≡ z → LeavesAs (not c && not z) vectors base s w n env e → Taken e (source.walk w e >>= ready c)
    as_ready e agrees true z is ranked h = subst (Taken e) (sym (after_nothing (source.walk w e))) (designator_taken e is agrees (source.walk w e) h)
    as_ready e agrees false true is ranked h = scalar_taken e ranked (source.walk w e) h
    as_ready e agrees false false is ranked h = settled_taken e (source.walk w e >>= settled) h

  -- ---- all of them

  module _ (start : Environment) (agrees : Agrees s.names base w start) where
    given_ready : (x : Given) (n : ℕ) → IsSoundGiven true s x → values.GivenStands vectors base start s w n x → GivenStands vectors base start s w n x
    given_ready absent n sound h = tt
    given_ready (given e) n sound h = (sound.1 n, h)

    sub_ready : (x : Sub) (r : Operand) (dim n : ℕ) → IsSoundSub true s x → values.SubscriptStands vectors base start s w r dim n x → SubscriptStands vectors base start s w r dim n x
    sub_ready (sub.One e) r dim n sound h = (
      sound.1 n,
      λ env kept. as_ready n env e (agrees-kept s.names base base w start env (omega arith) kept agrees) (is_designator e) (rank_of (value e s n).made.kind == 0) refl refl (h env kept),
    )
    sub_ready (sub.Range' l u t) r dim n sound h = (given_ready l _ sound.0 h.0, given_ready u _ sound.1 h.1, given_ready t _ sound.2 h.2)

    pub subs-ready : {k : _} (xs : Subs k) (r : Operand) (dim n : ℕ) → AreSoundSubs true s xs → values.SubscriptsStand vectors base start s w r dim n xs → SubscriptsStand vectors base start s w r dim n xs
    subs-ready end_subs r dim n sound h = tt
    subs-ready (more_subs x xs) r dim n sound h = (sub_ready x r dim n sound.0 h.0, subs-ready xs r (suc dim) (n + numbers_of (subscript r dim x s n).ops) sound.1 h.1)
