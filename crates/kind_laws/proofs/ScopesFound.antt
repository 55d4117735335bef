-- What stands among the values inside constructs: index names, regions, declares.
use Rattle.std.proofs.Common.{◌≡◌, refl, sym, ap, ◌∙◌, subst, ℕ, suc, ◌+◌, Bool, true, false, not, List, [], ◌∷◌, ◌++◌, map, length, Option, Some, None, slice_get, append_assoc, true≢false, arith}
use Rattle.std.specs.Prelude.{⊤}
use Rattle.std.specs.List.{All}
use Rattle.std.proofs.lemmas.List.{length-append, length-map}
use Rattle.std.proofs.lemmas.List.Elements.{All-cons}
use Rattle.ws_base.specs.declared.refusal.RefusalKind.TheVariants as kind
use Rattle.ws_types.specs.declared.types.Entry.{Entry}
use Rattle.ws_types.specs.declared.types.Standing.{Standing}
use Rattle.ws_types.specs.declared.types.Standing.TheVariants.{Declared, Active, Index, Barred}
use Rattle.ws_types.specs.Names.{Name, standing_of, name_type, name_faults, entry_type, is_constant, is_no_allocatable}
use Rattle.ws_types.specs.Operations.{is_other_type, is_above, scalar_faults}
use Rattle.ws_sema.specs.declared.within.Within.{Within}
use Rattle.ws_sema.specs.Statements.{variable_faults, loop_faults, allocatable_faults}
use Rattle.ws_sema.proofs.NoFaults.{none_first, none_after, not_broken, impossible, not_false}
use Rattle.hlfir_ops.specs.declared.kinds.Elem.TheVariants.{I32}
use Rattle.hlfir_ops.specs.declared.kinds.ValueKind.{ValueKind}
use Rattle.hlfir_ops.specs.declared.kinds.ValueKind.TheVariants.{Scalar, Place, Declared as Declared', Allocatable, Section, Array}
use Rattle.hlfir_ops.specs.declared.what.What.{What}
use Rattle.hlfir_ops.specs.declared.op.Op.{Op, Op-F, roll-Op, out-roll-Op}
use Rattle.hlfir_ops.specs.declared.op.Region.{Region, out-roll-Region}
use Rattle.hlfir_ops.specs.Trees.{op_of}
use Rattle.hlfir_ops.specs.Numbers.{names_in, own_numbers, numbers_of}
use Rattle.hlfir_ops.specs.RulesValues.{Value, Declares, own_values, op_values, values_of, values_in, value_at, value_of_name}
use Rattle.hlfir_ops.proofs.Valued.{op_values-parts}
use Rattle.lower_values.specs.declared.operand.Operand.{Operand}
use Rattle.lower_assign.specs.Known.{elem}
use Rattle.lower_values.specs.Scopes.{Scope, Indexed, inside}
use Rattle.lower_values.specs.Scopes as scopes
use Rattle.lower_values.specs.Lowerings.{Lowering, regions_from}
use Rattle.lower_values.specs.References.{declare_of, or_nothing}
use Rattle.kind_laws.specs.Standing.{FitsEntry, EntryIsKnown, NameIsKnown}
use Rattle.kind_laws.specs.Found.{Holds, HoldsNames, RegionsHeld, IndexIsFound, ScopeIsFound, IsDeclareOf}
use Rattle.kind_laws.specs.Laws.{InsideIsFound, RegionsAreHeld, DeclaresAreFound, AllocatablesAreFound, LoopVariablesAreFound, IsVariable}
use Rattle.kind_laws.proofs.Finding.{value_here}
use Rattle.kind_laws.proofs.FormsFound.{declare_found}
use Rattle.kind_laws.proofs.ScopesKnown.{entry_variable}
use Rattle.kind_laws.proofs.TypesTold.{no_rank}
use Rattle.kind_laws.proofs.Counted.{values_of-length}

-- ---- index names

module _ (vs : List Value) where
  name_here : (n : ℕ) (x : Name) (xs : List Name) → HoldsNames vs n (x ∷ xs) → value_at vs (record { number = n }) ≡ Some (value_of_name x)
  name_here n x xs h =
      ap (λ l. slice_get l n) h.whole ∙ (ap (slice_get (h.before ++ value_of_name x ∷ (map value_of_name xs ++ h.after))) (sym h.count) ∙ value_here h.before (map value_of_name xs ++ h.after) (value_of_name x))

  names_after : (n : ℕ) (x : Name) (xs : List Name) → HoldsNames vs n (x ∷ xs) → HoldsNames vs (suc n) xs
  names_after n x xs h = record {
    before = h.before ++ value_of_name x ∷ [];
    after = h.after;
    whole = h.whole ∙ sym (append_assoc h.before (value_of_name x ∷ []) (map value_of_name xs ++ h.after));
    count = let one = length-append h.before (value_of_name x ∷ []) in let before = h.count in omega (arith, one, before);
  }

  indexes_found : (n : ℕ) (names : List Name) (outer : List Indexed) → HoldsNames vs n names → All (IndexIsFound vs) outer → All (IndexIsFound vs) (scopes.with_indexes n names outer)
  indexes_found n [] outer h all = all
  indexes_found n (x ∷ xs) outer h all =
      let i : Indexed = record { name = x; value = record { number = n } } in
      indexes_found (suc n) xs (i ∷ outer) (names_after n x xs h) (All-cons (IndexIsFound vs) i outer (name_here n x xs h) all)

pub inside_found : InsideIsFound
inside_found vs s w line k n h all = record { variables = all.variables; indexes = indexes_found vs n (names_in w k) s.indexes h all.indexes }

-- ---- regions

-- the values of these regions stand from this number on
record Stand (vs : List Value) (n : ℕ) (inner : List Value) : Type 0 where
  before : List Value
  after : List Value
  whole : vs ≡ before ++ (inner ++ after)
  count : length before ≡ n

module _ (vs : List Value) where
  stand_first : (n : ℕ) (xs ys : List Value) → Stand vs n (xs ++ ys) → Stand vs n xs
  stand_first n xs ys h = record { before = h.before; after = ys ++ h.after; whole = h.whole ∙ ap (λ l. h.before ++ l) (append_assoc xs ys h.after); count = h.count }

  stand_after : (n : ℕ) (xs ys : List Value) → Stand vs n (xs ++ ys) → Stand vs (n + length xs) ys
  stand_after n xs ys h = record {
    before = h.before ++ xs;
    after = h.after;
    whole = h.whole ∙ (ap (λ l. h.before ++ l) (append_assoc xs ys h.after) ∙ sym (append_assoc h.before xs (ys ++ h.after)));
    count = length-append h.before xs ∙ ap (λ m. m + length xs) h.count;
  }

  stand_at : (m n : ℕ) (xs : List Value) → m ≡ n → Stand vs m xs → Stand vs n xs
  stand_at m n xs is h = subst (λ k. Stand vs k xs) is h

  held : (n : ℕ) (ops : List Op) → Stand vs n (values_of ops) → Holds vs n ops
  held n ops h = record { before = h.before; after = h.after; whole = h.whole; count = h.count }

  held_names : (n : ℕ) (names : List Name) → Stand vs n (map value_of_name names) → HoldsNames vs n names
  held_names n names h = record { before = h.before; after = h.after; whole = h.whole; count = h.count }

  regions_held : (w : What) (line k n : ℕ) (ps : List (Lowering ⊤)) (s : Scope) → Stand vs n (values_in w k (regions_from w line k n ps s)) → RegionsHeld vs w line k n ps s
  regions_held w line k n [] s h = tt
  regions_held w line k n (p ∷ ps) s h =
      let ops = (p (inside w line k n s) (n + length (names_in w k))).ops in
      let names = map value_of_name (names_in w k) in
      let next = n + (length (names_in w k) + numbers_of ops) in
      let rest = values_in w (suc k) (regions_from w line (suc k) next ps s) in
      let whole : Stand vs n ((names ++ values_of ops) ++ rest) = subst (λ r. Stand vs n ((names ++ values_of r.ops) ++ rest)) (out-roll-Region (record { ops = ops })) h in
      let region = stand_first n (names ++ values_of ops) rest whole in
      let many : length names ≡ length (names_in w k) = length-map (names_in w k) value_of_name in
      let all : length (names ++ values_of ops) ≡ length (names_in w k) + numbers_of ops = length-append names (values_of ops) ∙ (ap (λ m. m + length (values_of ops)) many ∙ ap (λ m. length (names_in w k) + m) (values_of-length ops)) in (
        held_names n (names_in w k) (stand_first n names (values_of ops) region),
        held (n + length (names_in w k)) ops (stand_at (n + length names) (n + length (names_in w k)) (values_of ops) (ap (λ m. n + m) many) (stand_after n names (values_of ops) region)),
        regions_held w line (suc k) next ps s (stand_at (n + length (names ++ values_of ops)) next rest (ap (λ m. n + m) all) (stand_after n (names ++ values_of ops) rest whole)),
      )

own_length : (w : What) (kind : Option ValueKind) → length (own_values w kind) ≡ own_numbers kind
own_length w (Some k) = refl
own_length w None = refl

pub regions_are_held : RegionsAreHeld
regions_are_held vs w line operands kind ps s n ops h =
    let regions = regions_from w line 0 (n + own_numbers kind) ps s in
    let whole : Op-F Op Region = record { what = w; line = line; operands = operands; kind = kind; regions = regions } in
    let parts : op_values (op_of w line operands kind regions) ≡ own_values w kind ++ values_in w 0 regions = op_values-parts (roll-Op whole) ∙ ap (λ f. own_values f.what f.kind ++ values_in f.what 0 f.regions) (out-roll-Op whole) in
    let op : Stand vs n (op_values (op_of w line operands kind regions) ++ values_of ops) = record { before = h.before; after = h.after; whole = h.whole; count = h.count } in
    let first : Stand vs n (own_values w kind ++ values_in w 0 regions) = subst (Stand vs n) parts (stand_first vs n (op_values (op_of w line operands kind regions)) (values_of ops) op) in
    regions_held vs w line 0 (n + own_numbers kind) ps s
    (stand_at vs (n + length (own_values w kind)) (n + own_numbers kind) (values_in w 0 regions) (ap (λ m. n + m) (own_length w kind)) (stand_after vs n (own_values w kind) (values_in w 0 regions) first))

-- ---- declares

module _ (s : Scope) (vs : List Value) (x : Name) (all : ScopeIsFound vs s) where
  entry_declare : (e : Entry) → EntryIsKnown false s.names x e → IsDeclareOf vs e (declare_of s.names x)
  entry_declare e h =
      subst (IsDeclareOf vs e) (sym (ap or_nothing h.1)) (record { found = declare_found vs s.names.variables x h.0 all.variables h.1; fits = h.2 })

  variable_declare : (st : Option Standing) (e : Entry) → NameIsKnown s x st → IsVariable e st → IsDeclareOf vs e (declare_of s.names x)
  variable_declare None e h is = absurd is
  variable_declare (Some (Declared d)) e h is = subst (λ c. IsDeclareOf vs c (declare_of s.names x)) is.0 (entry_declare d (entry_variable d.constant s.names x d is.1 h.1))
  variable_declare (Some (Active d)) e h is = subst (λ c. IsDeclareOf vs c (declare_of s.names x)) is (entry_declare d h.2)
  variable_declare (Some Index) e h is = absurd is
  variable_declare (Some Barred) e h is = absurd is

  -- a constant is never allocated
  allocatable_entry : (c : Bool) (d : Entry) → EntryIsKnown c s.names x d → d.allocatable ≡ true → EntryIsKnown false s.names x d
  allocatable_entry true d h is = absurd (true≢false (sym is ∙ h.2))
  allocatable_entry false d h is = h

  allocatable_declare : (line : ℕ) (st : Option Standing) → NameIsKnown s x st → allocatable_faults line st ≡ [] → (e : Entry) × (name_type st ≡ Some (entry_type e)) × (e.allocatable ≡ true) × IsDeclareOf vs e (declare_of s.names x)
  unfolding allocatable_faults name_faults
  allocatable_declare line None h f = impossible line kind.Undeclared (none_first _ _ (none_first _ _ f))
  allocatable_declare line (Some (Declared d)) h f =
      let is = not_false d.allocatable (not_broken (is_no_allocatable (Some (Declared d))) _ _ (none_after _ _ f)) in
      (d, refl, is, entry_declare d (allocatable_entry d.constant d h.1 is))
  allocatable_declare line (Some (Active d)) h f = (d, refl, not_false d.allocatable (not_broken (is_no_allocatable (Some (Active d))) _ _ (none_after _ _ f)), entry_declare d h.2)
  allocatable_declare line (Some Index) h f = impossible line kind.NotAllocatable (none_after _ _ f)
  allocatable_declare line (Some Barred) h f = impossible line kind.DoVariable (none_after _ _ (none_first _ _ f))

pub declares_are_found : DeclaresAreFound
declares_are_found t s vs x e known all is = variable_declare s vs x all (standing_of t x) e (known x) is

pub allocatables_are_found : AllocatablesAreFound
allocatables_are_found t s vs line x known all f = allocatable_declare s vs x all line (standing_of t x) (known x) f

-- ---- the variable of a DO

integer_fits : (e : Entry) (k : ValueKind) → FitsEntry e k → e.truth ≡ false → e.rank ≡ 0 → k ≡ Place I32
integer_fits e (Scalar f) h t r = absurd h
integer_fits e (Place f) h t r = ap Place (h.0 ∙ ap elem t)
integer_fits e (Declared' f shape) h t r = absurd (let some = h.2 in omega (arith, some, r))
integer_fits e (Allocatable f rank) h t r = absurd (let some = h.2 in omega (arith, some, r))
integer_fits e (Section f rank) h t r = absurd h
integer_fits e (Array f rank) h t r = absurd h

truth_false : (b : Bool) → not (not b) ≡ false → b ≡ false
truth_false true h = absurd (true≢false h)
truth_false false h = refl

loop_declare : (vs : List Value) (e : Entry) (d : Operand) → IsDeclareOf vs e d → e.truth ≡ false → e.rank ≡ 0 → value_at vs d.value ≡ Some (record { kind = Place I32; source = Declares })
loop_declare vs e d h t r = h.found ∙ ap (λ k. let v : Value = record { kind = k; source = Declares } in Some v) (integer_fits e d.kind h.fits t r)

loop_variable : (s : Scope) (vs : List Value) (w : Within) (line : ℕ) (x : Name) (st : Option Standing) → ScopeIsFound vs s → NameIsKnown s x st → loop_faults w line st ≡ [] → value_at vs (declare_of s.names x).value ≡ Some (record { kind = Place I32; source = Declares })
unfolding loop_faults variable_faults name_faults scalar_faults
loop_variable s vs w line x None all h f = impossible line kind.Undeclared (none_first _ _ (none_first _ _ (none_first _ _ (none_first _ _ f))))
loop_variable s vs w line x (Some (Declared d)) all h f =
    let variable = none_first _ _ f in
    let constant = not_broken (is_constant (Some (Declared d))) _ _ (none_after _ _ (none_first _ _ variable)) in
    let scalar = none_after _ _ variable in
    loop_declare vs d (declare_of s.names x) (variable_declare s vs x all (Some (Declared d)) d h (refl, constant))
    (truth_false d.truth (not_broken (is_other_type false (name_type (Some (Declared d)))) _ _ (none_first _ _ scalar)))
    (let above = not_broken (is_above 0 (name_type (Some (Declared d)))) _ _ (none_after _ _ scalar) in no_rank (entry_type d) above)
loop_variable s vs w line x (Some (Active d)) all h f = impossible line kind.DoVariable (none_after _ _ f)
loop_variable s vs w line x (Some Index) all h f = impossible line kind.DoVariable (none_after _ _ f)
loop_variable s vs w line x (Some Barred) all h f = impossible line kind.DoVariable (none_after _ _ (none_first _ _ (none_first _ _ (none_first _ _ f))))

pub loop_variables_are_found : LoopVariablesAreFound
loop_variables_are_found t s vs w line x known all f = loop_variable s vs w line x (standing_of t x) all (known x) f
