-- The declares of a source stand first, with different names.
use Rattle.std.proofs.Common.{◌≡◌, refl, ap, ◌∙◌, ℕ, suc, ◌+◌, Bool, true, false, not, ◌&&◌, ◌||◌, List, [], ◌∷◌, ◌++◌, map, All, Option, Some, None, bytes_eq, sym}
use Rattle.std.specs.List.{list_all, list_any}
use Rattle.std.proofs.lemmas.List.Elements.{All-nil, All-cons, All-append, All-same}
use Rattle.std.proofs.lemmas.List.Folds.{list_all-append}
use Rattle.std.proofs.lemmas.Bool.{and_from, or_right}
use Rattle.ws_base.specs.declared.name.Name.{Name}
use Rattle.ws_tree.specs.declared.expr.Expr.{Expr}
use Rattle.ws_tree.specs.declared.stmt.Decl.{Decl}
use Rattle.ws_types.specs.declared.constant.Constant.{Constant}
use Rattle.ws_sema.specs.Declarations.{is_declared, heading_faults, decls_faults, with_constant}
use Rattle.ws_sema.proofs.NoFaults.{none_first, none_after, not_broken, left_false, right_false}
use Rattle.hlfir_ops.specs.declared.kinds.ValueKind.{ValueKind}
use Rattle.hlfir_ops.specs.declared.what.What.TheVariants as what
use Rattle.hlfir_ops.specs.declared.op.Op.{Op, Op-F, out-Op, out-roll-Op}
use Rattle.hlfir_ops.specs.declared.op.Region.{Region}
use Rattle.hlfir_ops.specs.Trees.{op_of}
use Rattle.hlfir_ops.specs.Numbers.{own_numbers, op_numbers}
use Rattle.hlfir_ops.specs.RulesValues.{Value}
use Rattle.hlfir_ops.specs.RulesPlaces.{Around, Place, Site, own_defined, sites_of, sites_in, op_sites}
use Rattle.hlfir_ops.specs.RulesStatements.{is_declare, declares, is_named, declares_name, declares_first, may_take_allocatable, no_allocatable, yields_no_allocatable, regions_judged}
use Rattle.hlfir_ops.specs.Rules.{yields_of, sides_of, realloc_of, declares_fit}
use Rattle.hlfir_ops.proofs.Sites.{op_sites-parts}
use Rattle.lower_assign.specs.Known.{declares_variable, if_variable, variable_decls, variable, numbered}
use Rattle.yield_laws.proofs.Right.{Keeps}
use Rattle.kind_laws.proofs.DeclaresFound.{declare_op}
use Rattle.kind_laws.proofs.ConstantsKnown.{declared_more}

-- ---- each keeps the rules

module _ (vs : List Value) where
  declare_keeps : (p : Place) (line : ℕ) (name : Name) (kind : Option ValueKind) → (list_all declares p.before && not (list_any (is_named name) p.before)) ≡ true → Keeps vs (record { place = p; op = op_of (what.Declare name) line [] kind [] })
  unfolding yields_of sides_of realloc_of declares_fit
  declare_keeps p line name kind h =
      let f : Op-F Op Region = record { what = what.Declare name; line = line; operands = []; kind = kind; regions = [] } in
      let e : out-Op (op_of (what.Declare name) line [] kind []) ≡ f = out-roll-Op f in
      record {
        yields = ap (λ (g : Op-F Op Region). yields_of vs g.what g.regions) e;
        sides = ap (λ (g : Op-F Op Region). sides_of vs g.what g.regions) e;
        realloc = ap (λ (g : Op-F Op Region). realloc_of p.around.masked vs g.what g.regions) e;
        declares =
            ap (λ (g : Op-F Op Region). (not p.around.own || declares_first p.before g.what) && ((may_take_allocatable g.what || no_allocatable vs g.operands) && list_all (yields_no_allocatable vs) (regions_judged g.what g.regions))) e
            ∙ and_from _ true (or_right (not p.around.own) _ h) refl;
      }

  declare_sites : (p : Place) (line : ℕ) (name : Name) (kind : Option ValueKind) → (list_all declares p.before && not (list_any (is_named name) p.before)) ≡ true → All (Keeps vs) (op_sites p (op_of (what.Declare name) line [] kind []))
  declare_sites p line name kind h =
      let op = op_of (what.Declare name) line [] kind [] in
      let f : Op-F Op Region = record { what = what.Declare name; line = line; operands = []; kind = kind; regions = [] } in
      All-same (Keeps vs) _ _
      (op_sites-parts p op ∙ ap (λ (g : Op-F Op Region). let s : Site = record { place = p; op = op } in s ∷ sites_in p.around g.what 0 (own_numbers g.kind + p.number) p.defined g.regions) (out-roll-Op f))
      (All-cons (Keeps vs) (record { place = p; op = op }) [] (declare_keeps p line name kind h) (All-nil (Keeps vs)))

-- a name that is none of these declarations' is none of these ops'
abbrev Hides : List Decl → List Op → Type 0
Hides ds ops = (x : Name) → is_declared ds x ≡ false → list_any (is_named x) ops ≡ false

declared_push : (ds : List Decl) (d : Decl) (x : Name) → is_declared (ds ++ d ∷ []) x ≡ false → (is_declared ds x ≡ false) × (bytes_eq d.name x ≡ false)
declared_push ds d x h = let parts = sym (declared_more ds d x) ∙ h in (left_false _ _ parts, right_false _ _ parts)

any_push : (test : Op → Bool) (ops : List Op) (op : Op) → list_any test ops ≡ false → test op ≡ false → list_any test (ops ++ op ∷ []) ≡ false
any_push test [] op h g = ap (λ b. b || false) g
any_push test (x ∷ ops) op h g = ap (λ b. b || list_any test (ops ++ op ∷ [])) (left_false (test x) _ h) ∙ any_push test ops op (right_false (test x) _ h) g

hides_skip : (ds : List Decl) (d : Decl) (ops : List Op) → Hides ds ops → Hides (ds ++ d ∷ []) ops
hides_skip ds d ops h x none = h x (declared_push ds d x none).0

hides_push : (ds : List Decl) (d : Decl) (ops : List Op) (line : ℕ) (kind : Option ValueKind) → Hides ds ops → Hides (ds ++ d ∷ []) (ops ++ op_of (what.Declare d.name) line [] kind [] ∷ [])
hides_push ds d ops line kind h x none =
    let f : Op-F Op Region = record { what = what.Declare d.name; line = line; operands = []; kind = kind; regions = [] } in
    let apart = declared_push ds d x none in
    any_push (is_named x) ops (op_of (what.Declare d.name) line [] kind []) (h x apart.0) (ap (λ (g : Op-F Op Region). declares_name x g.what) (out-roll-Op f) ∙ apart.1)

declares_push : (ops : List Op) (line : ℕ) (name : Name) (kind : Option ValueKind) → list_all declares ops ≡ true → list_all declares (ops ++ op_of (what.Declare name) line [] kind [] ∷ []) ≡ true
declares_push ops line name kind h =
    let f : Op-F Op Region = record { what = what.Declare name; line = line; operands = []; kind = kind; regions = [] } in
    let op = op_of (what.Declare name) line [] kind [] in
    list_all-append declares ops (op ∷ []) ∙ and_from _ _ h (and_from _ true (ap (λ (g : Op-F Op Region). is_declare g.what) (out-roll-Op f)) refl)

undeclared : (bs : List Decl) (known : List Constant) (d : Decl) (ds : List Decl) → decls_faults bs known (d ∷ ds) ≡ [] → is_declared bs d.name ≡ false
unfolding heading_faults
undeclared bs known d ds f = not_broken _ _ _ (none_after _ _ (none_first _ _ (none_first _ _ (none_first _ _ (none_first _ _ (none_first _ _ f))))))

pub declares-kept : (vs : List Value) (line : ℕ) (cs : List Constant) (ds bs : List Decl) (known : List Constant) → decls_faults bs known ds ≡ [] → (ops : List Op) → list_all declares ops ≡ true → Hides bs ops → (a : Around) (k n : ℕ) (d : List ℕ) →
    All (Keeps vs) (sites_of a ops n d (map (declare_op line) (numbered k cs (variable_decls ds))))
declares-kept vs line cs [] bs known f ops h hides a k n d = All-nil (Keeps vs)
declares-kept vs line cs (x ∷ ds) bs known f ops h hides a k n d =
    by_constant x.constant refl
    (λ o hides' h' k' n' d'. declares-kept vs line cs ds (bs ++ x ∷ []) (with_constant known x) (none_after _ _ f) o h' hides' a k' n' d')
  where
    by_constant : (c : Option Expr) → x.constant ≡ c →
        ((o : List Op) → Hides (bs ++ x ∷ []) o → list_all declares o ≡ true → (k' n' : ℕ) (d' : List ℕ) → All (Keeps vs) (sites_of a o n' d' (map (declare_op line) (numbered k' cs (variable_decls ds))))) →
        All (Keeps vs) (sites_of a ops n d (map (declare_op line) (numbered k cs (if_variable (declares_variable c) x ++ variable_decls ds))))
    by_constant (Some e) is rest = rest ops (hides_skip bs x ops hides) h k n d
    by_constant None is rest =
        let v = variable k cs x in
        let op = declare_op line v in
        All-append (Keeps vs) _ _
        (declare_sites vs (record { around = a; before = ops; number = n; defined = d }) line x.name (Some v.declare.kind) (and_from _ _ h (ap not (hides x.name (undeclared bs known x ds f)))))
        (rest (ops ++ op ∷ []) (hides_push bs x ops line (Some v.declare.kind) hides) (declares_push ops line x.name (Some v.declare.kind) h) (suc k) (op_numbers op + n) (d ++ own_defined n (out-Op op).kind))
