-- References to variables over combinations, their elements, and inquiries.
use Rattle.std.specs.Prelude.{⊤}
use Rattle.std.specs.List.{flat_map}
use Rattle.std.proofs.Common.{◌≡◌, refl, sym, ap, ◌∙◌, subst, ℕ, ◌<◌, true, false, List, [], ◌∷◌, map, Option, Some, None, Ok, Err, ℤ, true≢false}
use Rattle.ws_base.specs.declared.op.CallWord.{CallWord}
use Rattle.ws_base.specs.declared.op.CallWord.TheVariants as word
use Rattle.ws_base.specs.Outcomes.{Staged, ◌>>=◌, each, rows}
use Rattle.ws_space.specs.declared.state.VarState.{VarState}
use Rattle.ws_space.specs.declared.state.VarState.TheVariants as state
use Rattle.ws_space.specs.declared.state.Var.{Var}
use Rattle.ws_space.specs.Values.{value_at}
use Rattle.ws_types.specs.Operations.{is_inquiry, is_allocated_word}
use Rattle.array_meaning.specs.Forall as source
use Rattle.array_meaning.specs.Stage1 as once
use Rattle.hlfir_ops.specs.declared.kinds.Elem.TheVariants.{I32, I1}
use Rattle.hlfir_ops.specs.declared.kinds.ValueKind.{ValueKind}
use Rattle.hlfir_ops.specs.declared.kinds.ValueKind.TheVariants as kind
use Rattle.hlfir_ops.specs.declared.what.BoundWord.TheVariants as bounds
use Rattle.hlfir_ops.specs.declared.what.What.{What}
use Rattle.hlfir_ops.specs.declared.what.What.TheVariants as what
use Rattle.hlfir_ops.specs.declared.op.ValueId.{ValueId}
use Rattle.hlfir_ops.specs.RulesValues.{elem_of}
use Rattle.hlfir_ops.specs.RulesForms.{section_rank}
use Rattle.hlfir_meaning.specs.Environments.{Value, variable, column, placed, Environment, state_in}
use Rattle.hlfir_meaning.specs.References.{held_values, inquired}
use Rattle.hlfir_meaning.specs.Places.{column_at, columns_of, loaded_at, place_in, designated, without_element, as_column, over_ops}
use Rattle.lower_values.specs.declared.operand.Operand.{Operand}
use Rattle.lower_values.specs.declared.operand.Subscript.{Subscript}
use Rattle.lower_values.specs.declared.operand.Subscript.TheVariants.{One, Range, Vector}
use Rattle.lower_values.specs.Scopes.{Scope}
use Rattle.lower_values.specs.Lowerings.{giving}
use Rattle.lower_values.specs.References.{variable_of, or_nothing, declare_of, box_of, boxed, reference, load_of, loaded, sub_kind, sub_values, part_kind, bound, dimension, bound_word, bound_or_size, size, is_allocated}
use Rattle.lower_values.specs.References as references
use Rattle.value_laws.proofs.Walking.{does-done}
use Rattle.forall_laws.specs.Walks.{DoesOver, IsColumn, IsReference, AreSubscripts, IsPlace, ArePlaces}
use Rattle.forall_laws.proofs.Given.{over-giving, over-column}

-- ---- subscripts

subscripts_found : (at : List ℕ) (ss : List Subscript) (cs : List (List ℤ)) (m : ℕ) (env : Environment) → AreSubscripts ss cs m env → columns_of at env (flat_map sub_values ss) ≡ cs
subscripts_found at [] [] m env h = refl
subscripts_found at [] (c ∷ cs) m env h = absurd h
subscripts_found at (One i ∷ ss) [] m env h = absurd h
subscripts_found at (One i ∷ ss) (c ∷ cs) m env h = ap (λ v. column_at at v ∷ columns_of at env (flat_map sub_values ss)) h.0 ∙ ap (λ q. c ∷ q) (subscripts_found at ss cs m env h.2)
subscripts_found at (Range l u s ∷ ss) cs m env h = absurd h
subscripts_found at (Vector v ∷ ss) cs m env h = absurd h

no_section : (ss : List Subscript) (cs : List (List ℤ)) (m : ℕ) (env : Environment) → AreSubscripts ss cs m env → section_rank (map sub_kind ss) ≡ 0
no_section [] [] m env h = refl
no_section [] (c ∷ cs) m env h = absurd h
no_section (One i ∷ ss) [] m env h = absurd h
no_section (One i ∷ ss) (c ∷ cs) m env h = no_section ss cs m env h.2
no_section (Range l u s ∷ ss) cs m env h = absurd h
no_section (Vector v ∷ ss) cs m env h = absurd h

-- ---- inquiries

abbrev Asks : CallWord → What → Option ℕ → Type 0
Asks w op dim = (s : VarState) → source.without_element (once.inquired w s dim) ≡ without_element (inquired op s)

without-same : (r : Staged ℤ) → source.without_element r ≡ without_element r
without-same (Ok z) = refl
without-same (Err t) = refl

lbound_asks : (dim : Option ℕ) → Asks word.Lbound (what.Bound bounds.Lbound (dimension dim)) dim
lbound_asks None (state.Array a) = without-same _
lbound_asks (Some k) (state.Array a) = without-same _
lbound_asks dim (state.Scalar z) = refl
lbound_asks dim (state.Unallocated r) = refl

ubound_asks : (dim : Option ℕ) → Asks word.Ubound (what.Bound bounds.Ubound (dimension dim)) dim
ubound_asks None (state.Array a) = without-same _
ubound_asks (Some k) (state.Array a) = without-same _
ubound_asks dim (state.Scalar z) = refl
ubound_asks dim (state.Unallocated r) = refl

size_asks : Asks word.Size what.Size None
size_asks (state.Array a) = without-same _
size_asks (state.Scalar z) = refl
size_asks (state.Unallocated r) = refl

extent_asks : (k : ℕ) → Asks word.Size (what.Bound bounds.Extent k) (Some k)
extent_asks k (state.Array a) = without-same _
extent_asks k (state.Scalar z) = refl
extent_asks k (state.Unallocated r) = refl

allocated_asks : (dim : Option ℕ) → Asks word.Allocated what.Allocated dim
allocated_asks dim (state.Array a) = refl
allocated_asks dim (state.Scalar z) = refl
allocated_asks dim (state.Unallocated r) = refl

module _ (at : List ℕ) (s : Scope) (n : ℕ) (env : Environment) where
  abbrev answers : CallWord → VarState → Option ℕ → Staged (List ℤ)
  answers w q dim = each (λ _. source.without_element (once.inquired w q dim)) at

  module _ (r : Operand) (v : Var) (found : env r.value.number ≡ variable v) where
    ask_bound : (w : CallWord) (b : _) (k : ℕ) (dim : Option ℕ) → Asks w (what.Bound b k) dim → DoesOver at s n env (bound b k r) (answers w v.state dim) IsColumn
    unfolding bound
    ask_bound w b k dim asks = over-column at s n env (what.Bound b k) (r.value ∷ []) (kind.Scalar I32) refl tt (answers w v.state dim)
        (ap (λ y. as_column (each (λ _. without_element (inquired (what.Bound b k) (state_in y))) at)) found ∙ ap (λ a. as_column (each (λ _. a) at)) (sym (asks v.state)))

    ask_size : (dim : Option ℕ) → DoesOver at s n env (size dim r) (answers word.Size v.state dim) IsColumn
    ask_size None = over-column at s n env what.Size (r.value ∷ []) (kind.Scalar I32) refl tt (answers word.Size v.state None)
        (ap (λ y. as_column (each (λ _. without_element (inquired what.Size (state_in y))) at)) found ∙ ap (λ a. as_column (each (λ _. a) at)) (sym (size_asks v.state)))
    ask_size (Some k) = ask_bound word.Size bounds.Extent k (Some k) (extent_asks k)

    pub over-bound_or_size : (w : CallWord) → is_inquiry w ≡ true → is_allocated_word w ≡ false → (dim : Option ℕ) → DoesOver at s n env (bound_or_size (bound_word w) dim r) (answers w v.state dim) IsColumn
    over-bound_or_size word.Size i a dim = ask_size dim
    over-bound_or_size word.Lbound i a dim = ask_bound word.Lbound bounds.Lbound (dimension dim) dim (lbound_asks dim)
    over-bound_or_size word.Ubound i a dim = ask_bound word.Ubound bounds.Ubound (dimension dim) dim (ubound_asks dim)
    over-bound_or_size word.Allocated i a dim = absurd (true≢false a)
    over-bound_or_size _ i a dim = absurd (true≢false (sym i))

    pub over-is_allocated : (dim : Option ℕ) → DoesOver at s n env (is_allocated r) (answers word.Allocated v.state dim) IsColumn
    over-is_allocated dim = over-column at s n env what.Allocated (r.value ∷ []) (kind.Scalar I1) refl tt (answers word.Allocated v.state dim)
        (ap (λ y. as_column (each (λ _. without_element (inquired what.Allocated (state_in y))) at)) found ∙ ap (λ a. as_column (each (λ _. a) at)) (sym (allocated_asks dim v.state)))

    -- ---- elements

    abbrev places : List (List ℤ) → Staged (List ℕ)
    places cs = each (place_in v.state) (rows at cs)

    module _ (w : What) (os : List ValueId) (k : ValueKind) (place : IsPlace k) where
      abbrev Stand : Operand → Value → ℕ → Environment → Type 0
      Stand x y m after = (after x.value.number ≡ y) × (x.value.number < m)

      by_places : (ps : Staged (List ℕ)) → DoesOver at s n env (giving w os k) (ps >>= (λ qs. Ok (placed v qs))) Stand → DoesOver at s n env (giving w os k) ps (ArePlaces v)
      unfolding giving
      by_places (Ok ps) h = (h.0, h.1, record { found = h.2.0; low = h.2.1; place = place })
      by_places (Err t) h = h

    pub over-designated : (ss : List Subscript) (cs : List (List ℤ)) → AreSubscripts ss cs n env → DoesOver at s n env (references.designated r ss) (places cs) (ArePlaces v)
    unfolding references.designated
    over-designated ss cs h =
        let os = r.value ∷ flat_map sub_values ss in
        let k = part_kind (elem_of r.kind) (section_rank (map sub_kind ss)) in
        by_places (what.Designate (map sub_kind ss)) os k (subst (λ m. IsPlace (part_kind (elem_of r.kind) m)) (sym (no_section ss cs n env h)) tt) (places cs)
        (subst (λ q. DoesOver at s n env (giving (what.Designate (map sub_kind ss)) os k) q (λ x y m after. (after x.value.number ≡ y) × (x.value.number < m)))
        (ap (λ y. designated at y (columns_of at env (flat_map sub_values ss))) found ∙ ap (designated at (variable v)) (subscripts_found at ss cs n env h))
        (over-giving at s n env (what.Designate (map sub_kind ss)) os k refl))

  load_place : (k : ValueKind) (x : Operand) (v : Var) (ps : List ℕ) → IsPlace k → env x.value.number ≡ placed v ps → DoesOver at s n env (load_of k x) (Ok (map (value_at (held_values v.state)) ps)) IsColumn
  load_place (kind.Place e) x v ps p found = over-column at s n env what.Load (x.value ∷ []) (kind.Scalar e) refl tt (Ok (map (value_at (held_values v.state)) ps)) (ap (λ y. let q : Staged Value = Ok (column (loaded_at at y)) in q) found)
  load_place _ x v ps p found = absurd p

  pub over-loaded : (x : Operand) (v : Var) (ps : List ℕ) → ArePlaces v x ps n env → DoesOver at s n env (loaded x) (Ok (map (value_at (held_values v.state)) ps)) IsColumn
  unfolding loaded
  over-loaded x v ps h = load_place x.kind x v ps h.place h.found

  -- ---- variables

  reference_by : (k : ValueKind) (d : Operand) (v : Var) (none : ⊤) → env d.value.number ≡ variable v → d.value.number < n → DoesOver at s n env (box_of k d) (Ok none) (IsReference v)
  unfolding giving
  reference_by (kind.Allocatable e rank) d v none found low = boxes where
    boxes : DoesOver at s n env (giving what.Boxed (d.value ∷ []) (kind.Allocatable e rank)) (Ok none) (IsReference v)
    boxes = let h = subst (λ q. DoesOver at s n env (giving what.Boxed (d.value ∷ []) (kind.Allocatable e rank)) q (λ x y m after. (after x.value.number ≡ y) × (x.value.number < m)))
        (ap (λ y. let q : Staged Value = Ok y in q) found) (over-giving at s n env what.Boxed (d.value ∷ []) (kind.Allocatable e rank) refl) in
        (h.0, h.1, record { found = h.2.0; low = h.2.1 })
  reference_by k d v none found low = does-done (over_ops at) s n env d none (IsReference v) (record { found = found; low = low })

  pub over-boxed : (d : Operand) (v : Var) (none : ⊤) → env d.value.number ≡ variable v → d.value.number < n → DoesOver at s n env (boxed d) (Ok none) (IsReference v)
  unfolding boxed
  over-boxed d v none found low = reference_by d.kind d v none found low
