-- A set of names, after a name is added and after a declaration.
use Rattle.std.proofs.Common.{◌≡◌, ◌∙◌, ap, sym, refl, ℕ, ◌+◌, ◌<◌, Bool, true, false, ◌||◌, List, [], ◌∷◌, ◌++◌, length, take, get_or}
use Rattle.std.specs.Prelude.{cond, bytes_eq}
use Rattle.std.specs.Borrow.{Bor}
use Rattle.std.specs.Ordering.{nat_cmp}
use Rattle.std.specs.Cmp.Lexicographic.{slice_cmp}
use Rattle.std.specs.BTreeSet.{BTreeSet, Updates}
use Rattle.std.proofs.lemmas.Map.Text.{is_eq-slice_cmp}
use Rattle.ws_tree.specs.declared.stmt.Decl.{Decl}
use Rattle.ws_types.specs.Names.{Name}
use Rattle.ws_types.proofs.Appended.{before}
use Rattle.ws_sema.specs.Declarations.{is_declared}
use Rattle.ws_sema.specs.Seen.{holds}

or_cond : (b c : Bool) → cond b true c ≡ (b || c)
or_cond true c = refl
or_cond false c = refl

pub holds-insert : (seen more : BTreeSet (Bor (List ℕ))) (name : Bor (List ℕ)) → Updates (λ x y. slice_cmp nat_cmp x.now y.now) seen more name true → (x : Name) → holds more x ≡ (bytes_eq name.now x || holds seen x)
holds-insert seen more name h x =
    let q : Bor (List ℕ) = record { ref_ptr = name.ref_ptr; now = x } in
    h.0 q
    ∙ ap (λ b. cond b true (holds seen x)) (is_eq-slice_cmp name.now x)
    ∙ or_cond (bytes_eq name.now x) (holds seen x)

or_swap : (p q r : Bool) → (p || (q || r)) ≡ (q || (p || r))
or_swap true true r = refl
or_swap true false r = refl
or_swap false q r = refl

declared-append : (ds : List Decl) (d : Decl) (x : Name) → is_declared (ds ++ d ∷ []) x ≡ (bytes_eq d.name x || is_declared ds x)
declared-append [] d x = refl
declared-append (e ∷ ds) d x = ap (λ b. bytes_eq e.name x || b) (declared-append ds d x) ∙ or_swap (bytes_eq e.name x) (bytes_eq d.name x) (is_declared ds x)

-- the names of one declaration more
pub next_seen : (seen more : BTreeSet (Bor (List ℕ))) (ds : List Decl) (i : ℕ) (d : Decl) (name : Name) → i < length ds → d ≡ get_or ds i d → name ≡ d.name → ((x : Name) → holds seen x ≡ is_declared (take i ds) x) → ((x : Name) → holds more x ≡ (bytes_eq name x || holds seen x)) → (x : Name) → holds more x ≡ is_declared (take (i + 1) ds) x
next_seen seen more ds i d name within is same held added x =
    added x
    ∙ ap (λ b. bytes_eq name x || b) (held x)
    ∙ ap (λ n. bytes_eq n x || is_declared (take i ds) x) same
    ∙ sym (declared-append (take i ds) d x)
    ∙ ap (λ l. is_declared l x) (sym (before ds i d within is))
