-- Loops that know what stands before each item.
use Rattle.std.proofs.Common.{◌≡◌, ap, sym, ◌∙◌, ℕ, ◌+◌, ◌<◌, ◌≤◌, List, [], ◌∷◌, ◌++◌, length, take, drop, get_or, Option}
use Rattle.std.proofs.Math.ListN.{drop_of_length-le}
use Rattle.ws_base.specs.declared.refusal.Refusal.{Refusal}
use Rattle.ws_tree.specs.declared.stmt.Decl.{Decl}
use Rattle.ws_tree.specs.declared.stmt.Index.{Index}
use Rattle.ws_types.specs.declared.types.Row.{Row}
use Rattle.ws_types.specs.declared.constant.Constant.{Constant}
use Rattle.ws_types.specs.Kinds.{least_from}
use Rattle.ws_sema.specs.Declarations.{decls_faults, decl_faults, constants_after, with_constant}
use Rattle.ws_sema.specs.Statements.{header_faults, index_faults}
use Rattle.ws_types.proofs.Appended.{least-append, least-none, front, before}

pub next_decl : (cs more : List Constant) (ds : List Decl) (i : ℕ) (d : Decl) (found now : Option Refusal) → i < length ds → d ≡ get_or ds i d → now ≡ least_from found (decl_faults (take i ds) cs d) → more ≡ with_constant cs d → least_from found (decls_faults (take i ds) cs (drop i ds)) ≡ least_from now (decls_faults (take (i + 1) ds) more (drop (i + 1) ds))
next_decl cs more ds i d found now within is step grown =
    ap (λ l. least_from found (decls_faults (take i ds) cs l)) (front ds i d within is)
    ∙ least-append found (decl_faults (take i ds) cs d) (decls_faults (take i ds ++ d ∷ []) (with_constant cs d) (drop (i + 1) ds))
    ∙ ap (λ g. least_from g (decls_faults (take i ds ++ d ∷ []) (with_constant cs d) (drop (i + 1) ds))) (sym step)
    ∙ ap (λ b. least_from now (decls_faults b (with_constant cs d) (drop (i + 1) ds))) (sym (before ds i d within is))
    ∙ ap (λ k. least_from now (decls_faults (take (i + 1) ds) k (drop (i + 1) ds))) (sym grown)

pub next_constant : (cs more : List Constant) (ds : List Decl) (i : ℕ) (d : Decl) → i < length ds → d ≡ get_or ds i d → more ≡ with_constant cs d → constants_after cs (drop i ds) ≡ constants_after more (drop (i + 1) ds)
next_constant cs more ds i d within is grown = ap (constants_after cs) (front ds i d within is) ∙ ap (λ k. constants_after k (drop (i + 1) ds)) (sym grown)

pub no_decl : (cs : List Constant) (ds : List Decl) (i : ℕ) (found : Option Refusal) → length ds ≤ i → least_from found (decls_faults (take i ds) cs (drop i ds)) ≡ found
no_decl cs ds i found h = ap (λ l. least_from found (decls_faults (take i ds) cs l)) (drop_of_length-le ds h) ∙ least-none found

pub no_constant : (cs : List Constant) (ds : List Decl) (i : ℕ) → length ds ≤ i → constants_after cs (drop i ds) ≡ cs
no_constant cs ds i h = ap (constants_after cs) (drop_of_length-le ds h)

pub next_index : (t barred : List Row) (line : ℕ) (xs : List Index) (i : ℕ) (x : Index) (found now : Option Refusal) → i < length xs → x ≡ get_or xs i x → now ≡ least_from found (index_faults t barred line (take i xs) x) → least_from found (header_faults t barred line (take i xs) (drop i xs)) ≡ least_from now (header_faults t barred line (take (i + 1) xs) (drop (i + 1) xs))
next_index t barred line xs i x found now within is step =
    ap (λ l. least_from found (header_faults t barred line (take i xs) l)) (front xs i x within is)
    ∙ least-append found (index_faults t barred line (take i xs) x) (header_faults t barred line (take i xs ++ x ∷ []) (drop (i + 1) xs))
    ∙ ap (λ g. least_from g (header_faults t barred line (take i xs ++ x ∷ []) (drop (i + 1) xs))) (sym step)
    ∙ ap (λ b. least_from now (header_faults t barred line b (drop (i + 1) xs))) (sym (before xs i x within is))

pub no_index : (t barred : List Row) (line : ℕ) (xs : List Index) (i : ℕ) (found : Option Refusal) → length xs ≤ i → least_from found (header_faults t barred line (take i xs) (drop i xs)) ≡ found
no_index t barred line xs i found h = ap (λ l. least_from found (header_faults t barred line (take i xs) l)) (drop_of_length-le xs h) ∙ least-none found
