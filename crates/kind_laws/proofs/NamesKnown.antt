-- In an accepted source, outside all statements, each declared name stands for its declaration.
use Rattle.std.proofs.Common.{◌≡◌, refl, sym, ap, ◌∙◌, ℕ, suc, ◌≤◌, Bool, true, false, ◌||◌, List, [], ◌∷◌, ◌++◌, length, Option, Some, None, if◌then◌else◌, bytes_eq, true≢false, arith}
use Rattle.std.proofs.lemmas.Bool.{ltb-false}
use Rattle.std.proofs.lemmas.Slice.Eq.{bytes_eq-Decides}
use Rattle.ws_tree.specs.declared.expr.Expr.{Expr}
use Rattle.ws_tree.specs.declared.stmt.Bound.{Bound}
use Rattle.ws_tree.specs.declared.stmt.Decl.{Decl}
use Rattle.ws_types.specs.declared.constant.Constant.{Constant}
use Rattle.ws_types.specs.declared.constant.Constancy.TheVariants.{NotConstant}
use Rattle.ws_types.specs.declared.types.Entry.{Entry}
use Rattle.ws_types.specs.declared.types.Standing.{Standing}
use Rattle.ws_types.specs.declared.types.Standing.TheVariants.{Declared, Active, Index, Barred}
use Rattle.ws_types.specs.Names.{Name, standing_of}
use Rattle.ws_types.specs.Constants.{constant_of}
use Rattle.ws_sema.specs.Declarations.{is_declared, is_some, is_empty, is_left_out, is_large, value_faults, shape_faults, decls_faults, constants_from, with_constant, constants_after, row_of, table_of}
use Rattle.ws_sema.proofs.NoFaults.{none_first, none_after, not_broken, left_false, right_false}
use Rattle.lower_values.specs.declared.names.Names.{Names}
use Rattle.lower_values.specs.declared.names.NamedTruth.{NamedTruth}
use Rattle.lower_assign.specs.Known.{elem, declared_shape, variable_kind, kind_of, variable, declares_variable, if_variable, variable_decls, numbered, truths_of}
use Rattle.lower_values.specs.References.{variable_of}
use Rattle.lower_values.specs.Scopes.{scope_at}
use Rattle.kind_laws.specs.Laws.{NamesAreKnown}
use Rattle.kind_laws.specs.Standing.{FitsEntry, ConstantIsKnown, EntryIsKnown, NameIsKnown}
use Rattle.kind_laws.proofs.ConstantsKnown.{HasOnly, only_more, new_name, not_later, declared_more, value_after, none_later, new_value}

-- ---- kinds of declares

shape_rank : (cs : List Constant) (bs : List Bound) → length bs ≤ 3 → (declared_shape cs bs).rank ≡ length bs
shape_rank cs [] h = refl
shape_rank cs (a ∷ []) h = refl
shape_rank cs (a ∷ b ∷ []) h = refl
shape_rank cs (a ∷ b ∷ c ∷ []) h = refl
shape_rank cs (a ∷ b ∷ c ∷ d ∷ bs) h = absurd (omega (arith, h))

fits_at : (cs : List Constant) (truth constant allocatable : Bool) (bs : List Bound) → is_left_out allocatable constant (is_empty bs) ≡ false → length bs ≤ 3 →
    FitsEntry (record { truth = truth; rank = length bs; constant = constant; allocatable = allocatable }) (variable_kind allocatable (elem truth) (declared_shape cs bs) bs)
fits_at cs truth constant true [] h l = absurd (true≢false h)
fits_at cs truth constant true (b ∷ bs) h l = (refl, shape_rank cs (b ∷ bs) l, omega arith, refl)
fits_at cs truth constant false [] h l = (refl, refl, refl)
fits_at cs truth constant false (b ∷ bs) h l = (refl, shape_rank cs (b ∷ bs) l, omega arith, refl)

fits : (cs shapes : List Constant) (d : Decl) → shape_faults shapes d ≡ [] → FitsEntry (record { truth = d.truth; rank = length d.shape; constant = is_some d.constant; allocatable = d.allocatable }) (kind_of cs d)
unfolding shape_faults
fits cs shapes d f =
    fits_at cs d.truth (is_some d.constant) d.allocatable d.shape (not_broken _ _ _ (none_first _ _ f)) (ltb-false 3 (length d.shape) (left_false _ _ (not_broken (is_large shapes d.shape) _ _ (none_after _ _ f))))

-- a named constant is a scalar
scalar_at : (allocatable : Bool) (bs : List Bound) → is_left_out allocatable true (is_empty bs) ≡ false → (length bs ≡ 0) × (allocatable ≡ false)
scalar_at true [] h = absurd (true≢false h)
scalar_at false [] h = (refl, refl)
scalar_at true (b ∷ bs) h = absurd (true≢false h)
scalar_at false (b ∷ bs) h = absurd (true≢false h)

-- ---- variables

no_variable_at : (b : Bool) (n : ℕ) (cs : List Constant) (d : Decl) (rest : List Decl) (x : Name) → bytes_eq d.name x ≡ false → (m : ℕ) × (variable_of (numbered n cs (if_variable b d ++ rest)) x ≡ variable_of (numbered m cs rest) x)
no_variable_at true n cs d rest x h = (suc n, ap (λ c. if c then Some (variable n cs d).declare else variable_of (numbered (suc n) cs rest) x) h)
no_variable_at false n cs d rest x h = (n, refl)

no_variable : (n : ℕ) (cs : List Constant) (ds : List Decl) (x : Name) → is_declared ds x ≡ false → variable_of (numbered n cs (variable_decls ds)) x ≡ None
no_variable n cs [] x h = refl
no_variable n cs (d ∷ ds) x h =
    let skip = no_variable_at (declares_variable d.constant) n cs d (variable_decls ds) x (left_false (bytes_eq d.name x) (is_declared ds x) h) in
    skip.1 ∙ no_variable skip.0 cs ds x (right_false (bytes_eq d.name x) (is_declared ds x) h)

-- ---- names

abbrev names_from : ℕ → List Constant → List NamedTruth → List Decl → Names
names_from n cs truths ds = record { variables = numbered n cs (variable_decls ds); constants = cs; truths = truths }

entry_moved : (c : Bool) (a b : Names) (x : Name) (e : Entry) → variable_of a.variables x ≡ variable_of b.variables x → constant_of a.constants x ≡ constant_of b.constants x → EntryIsKnown c b x e → EntryIsKnown c a x e
entry_moved true a b x e h k g = (h ∙ g.0, g.1, g.2, moved e.truth g.3) where
  moved : (truth : Bool) → ConstantIsKnown b x truth → ConstantIsKnown a x truth
  moved true i = k ∙ i
  moved false i = (i.0, k ∙ i.1)
entry_moved false a b x e h k g = (g.0, h ∙ g.1, g.2, k ∙ g.3)

constant_known : (cs : List Constant) (d : Decl) (ds : List Decl) (truth : Bool) (e : Expr) (x : Name) (names : Names) → names.constants ≡ constants_after (constants_from cs d.name truth (Some e)) ds → bytes_eq d.name x ≡ true → is_declared ds x ≡ false →
    constant_of cs x ≡ NotConstant → value_faults cs d.line truth (Some e) ≡ [] → ConstantIsKnown names x truth
constant_known cs d ds true e x names all is later none f = ap (λ c. constant_of c x) all ∙ none_later cs ds x later none
constant_known cs d ds false e x names all is later none f =
    let value = new_value cs d.line d.name e x is none f in
    (value.0, ap (λ c. constant_of c x) all ∙ value_after (constants_from cs d.name false (Some e)) ds x value.0 value.1)

module _ (before : List Decl) (cs : List Constant) (d : Decl) (ds : List Decl) (n : ℕ) (truths : List NamedTruth) (x : Name) (only : HasOnly before cs) (f : decls_faults before cs (d ∷ ds) ≡ []) (is : bytes_eq d.name x ≡ true) where
  shape_faultless : shape_faults cs d ≡ []
  shape_faultless = none_after _ _ (none_first _ _ f)

  before_none : constant_of cs x ≡ NotConstant
  before_none = let same : d.name ≡ x = (bytes_eq-Decides d.name x).0 is in ap (constant_of cs) (sym same) ∙ only d.name (new_name before d (none_first _ _ (none_first _ _ (none_first _ _ (none_first _ _ f)))))

  later_none : is_declared ds x ≡ false
  later_none = not_later (before ++ d ∷ []) (with_constant cs d) ds x (none_after _ _ f) (declared_more before d x ∙ here (is_declared before x) (bytes_eq d.name x) is) where
    here : (a b : Bool) → b ≡ true → (a || b) ≡ true
    here true b h = refl
    here false b h = h

  abbrev all_constants : List Constant
  all_constants = constants_after cs (d ∷ ds)

  entry_at : (o : Option Expr) → d.constant ≡ o → EntryIsKnown (is_some o) (names_from n all_constants truths (d ∷ ds)) x (record { truth = d.truth; rank = length d.shape; constant = is_some d.constant; allocatable = d.allocatable })
  unfolding shape_faults
  entry_at None e = (
    (variable n all_constants d).declare,
    ap (λ c. variable_of (numbered n all_constants (if_variable (declares_variable c) d ++ variable_decls ds)) x) e
        ∙ ap (λ (b : Bool). if b then Some (variable n all_constants d).declare else variable_of (numbered (suc n) all_constants (variable_decls ds)) x) is,
    fits all_constants cs d shape_faultless,
    ap (λ c. constant_of (constants_after (constants_from cs d.name d.truth c) ds) x) e ∙ same d.truth,
  ) where
    same : (truth : Bool) → constant_of (constants_after (constants_from cs d.name truth None) ds) x ≡ NotConstant
    same true = none_later cs ds x later_none before_none
    same false = none_later cs ds x later_none before_none
  entry_at (Some c) e =
      let left : is_left_out d.allocatable true (is_empty d.shape) ≡ false = ap (λ o. is_left_out d.allocatable (is_some o) (is_empty d.shape)) (sym e) ∙ not_broken _ _ _ (none_first _ _ shape_faultless) in
      let scalar = scalar_at d.allocatable d.shape left in
      let value : value_faults cs d.line d.truth (Some c) ≡ [] = ap (value_faults cs d.line d.truth) (sym e) ∙ none_after _ _ (none_first _ _ (none_first _ _ (none_first _ _ f))) in (
        ap (λ o. variable_of (numbered n all_constants (if_variable (declares_variable o) d ++ variable_decls ds)) x) e ∙ no_variable n all_constants ds x later_none,
        scalar.0,
        scalar.1,
        constant_known cs d ds d.truth c x (names_from n all_constants truths (d ∷ ds)) (ap (λ o. constants_after (constants_from cs d.name d.truth o) ds) e) is later_none before_none value,
      )

-- what a name stands for is said of its variable and its constant alone
name_moved : (a b : Names) (x : Name) (st : Option Standing) → variable_of a.variables x ≡ variable_of b.variables x → constant_of a.constants x ≡ constant_of b.constants x → NameIsKnown (scope_at b []) x st → NameIsKnown (scope_at a []) x st
name_moved a b x None h k g = tt
name_moved a b x (Some (Declared e)) h k g = (g.0, entry_moved e.constant a b x e h k g.1)
name_moved a b x (Some (Active e)) h k g = (g.0, g.1, entry_moved false a b x e h k g.2)
name_moved a b x (Some Index) h k g = (g.0, g.1, k ∙ g.2)
name_moved a b x (Some Barred) h k g = tt

name_at : (before : List Decl) (cs : List Constant) (d : Decl) (ds : List Decl) (n : ℕ) (truths : List NamedTruth) (x : Name) → HasOnly before cs → decls_faults before cs (d ∷ ds) ≡ [] →
    ((m : ℕ) → NameIsKnown (scope_at (names_from m (constants_after cs (d ∷ ds)) truths ds) []) x (standing_of (table_of ds) x)) →
    (b : Bool) → bytes_eq d.name x ≡ b → NameIsKnown (scope_at (names_from n (constants_after cs (d ∷ ds)) truths (d ∷ ds)) []) x (if b then Some (row_of d).standing else standing_of (table_of ds) x)
name_at before cs d ds n truths x only f rest true is = (refl, entry_at before cs d ds n truths x only f is d.constant refl)
name_at before cs d ds n truths x only f rest false is =
    let skip = no_variable_at (declares_variable d.constant) n (constants_after cs (d ∷ ds)) d (variable_decls ds) x is in
    name_moved (names_from n (constants_after cs (d ∷ ds)) truths (d ∷ ds)) (names_from skip.0 (constants_after cs (d ∷ ds)) truths ds) x (standing_of (table_of ds) x) skip.1 refl (rest skip.0)

declared_known : (before : List Decl) (cs : List Constant) (ds : List Decl) (n : ℕ) (truths : List NamedTruth) (x : Name) → HasOnly before cs → decls_faults before cs ds ≡ [] →
    NameIsKnown (scope_at (names_from n (constants_after cs ds) truths ds) []) x (standing_of (table_of ds) x)
declared_known before cs [] n truths x only f = tt
declared_known before cs (d ∷ ds) n truths x only f =
    name_at before cs d ds n truths x only f (λ m. declared_known (before ++ d ∷ []) (with_constant cs d) ds m truths x (only_more before cs d only) (none_after _ _ f)) (bytes_eq d.name x) refl

pub names_are_known : NamesAreKnown
names_are_known t h x = declared_known [] [] t.decls 0 (truths_of t.decls) x (λ y n. refl) (none_first _ _ (none_first _ _ h.faultless))
