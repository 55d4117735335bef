-- A text stands for one module.
use Rattle.std.proofs.Common.{◌≡◌, refl, sym, ap, ◌∙◌, ℕ, ◌+◌, List, [], ◌∷◌, ◌++◌, codes, append_assoc, append-nil}
use Rattle.std.specs.List.{list_all}
use Rattle.std.proofs.lemmas.List.{append_cancel_left}
use Rattle.hlfir_ops.specs.declared.op.Op.{Op, out-Op}
use Rattle.hlfir_ops.specs.declared.op.Module.{Module}
use Rattle.hlfir_ops.specs.declared.op.Op.TheBlock.{hidden-the_row-Op-1}
use Rattle.hlfir_ops.specs.Opened.{trees_open}
use Rattle.hlfir_ops.specs.Numbers.{op_numbers, op_order, ops_order, order_of}
use Rattle.hlfir_ops.specs.RulesPlaces.{Around, op_sites, ops_sites, sites_of, own_defined, outermost}
use Rattle.hlfir_ops.specs.Rules.{KeepsRules, keeps, facts_of}
use Rattle.hlfir_text.specs.declared.form.Form.{Form}
use Rattle.hlfir_text.specs.declared.form.Form.TheVariants.{Listed}
use Rattle.hlfir_text.specs.ModuleText.{op_text, ops_text, lines_of, module_text}
use Rattle.text_laws.specs.Shown.{shown_op, shown_ops, shown_in}
use Rattle.text_laws.specs.Writable.{is_word_byte, has_names, fits, IsWritable}
use Rattle.text_laws.specs.Laws.{ATextStandsForOneModule}
use Rattle.text_laws.proofs.Runs.{tails, same_run}
use Rattle.text_laws.proofs.Heads.{name_bytes}
use Rattle.text_laws.proofs.Goods.{EachGood}
use Rattle.text_laws.proofs.Matched.{ops_law}
use Rattle.text_laws.proofs.Kept.{each_good}

-- ---- the ops of a module, as a list and as a row

text-list : (depth : ℕ) (y : Form) (number : ℕ) (ops : List Op) → ops_text depth y number (hidden-the_row-Op-1 ops) ≡ lines_of depth y number ops
unfolding trees_open
text-list depth y number [] = refl
text-list depth y number (op ∷ ops) = ap (λ t. op_text depth y number op ++ t) (text-list depth y (number + op_numbers op) ops)

shown-list : (ops : List Op) → shown_ops (hidden-the_row-Op-1 ops) ≡ shown_in ops
unfolding trees_open
shown-list [] = refl
shown-list (op ∷ ops) = ap (λ os. shown_op op ∷ os) (shown-list ops)

order-list : (ops : List Op) → ops_order (hidden-the_row-Op-1 ops) ≡ order_of ops
unfolding trees_open
order-list [] = refl
order-list (op ∷ ops) = ap (λ os. op_order op ++ os) (order-list ops)

sites-list : (a : Around) (before : List Op) (n : ℕ) (defined : List ℕ) (ops : List Op) → ops_sites a before n defined (hidden-the_row-Op-1 ops) ≡ sites_of a before n defined ops
unfolding trees_open
sites-list a before n defined [] = refl
sites-list a before n defined (op ∷ ops) =
    ap (λ ss. op_sites (record { around = a; before = before; number = n; defined = defined }) op ++ ss) (sites-list a (before ++ op ∷ []) (op_numbers op + n) (defined ++ own_defined n (out-Op op).kind) ops)

-- ---- modules

good : (m : Module) → KeepsRules m → IsWritable m → EachGood (hidden-the_row-Op-1 m.ops)
good m k w =
    each_good (facts_of m) outermost [] 0 [] (hidden-the_row-Op-1 m.ops) (ap (list_all (keeps (facts_of m))) (sites-list outermost [] 0 [] m.ops) ∙ k)
    (ap (list_all (λ op. has_names (out-Op op).what)) (order-list m.ops) ∙ w.names) (ap (list_all fits) (order-list m.ops) ∙ w.numbers)

module_text-then : (m : Module) → module_text m ≡ codes "module " ++ (m.name ++ (10 ∷ lines_of 0 Listed 0 m.ops))
module_text-then m = append_assoc (codes "module " ++ m.name) (codes "\n") (lines_of 0 Listed 0 m.ops) ∙ append_assoc (codes "module ") m.name (codes "\n" ++ lines_of 0 Listed 0 m.ops)

as_row : (m : Module) → ops_text 0 Listed 0 (hidden-the_row-Op-1 m.ops) ++ [] ≡ lines_of 0 Listed 0 m.ops
as_row m = append-nil (ops_text 0 Listed 0 (hidden-the_row-Op-1 m.ops)) ∙ text-list 0 Listed 0 m.ops

pub ATextStandsForOneModule-all : ATextStandsForOneModule
ATextStandsForOneModule-all m n keeps_m keeps_n write_m write_n same =
    let past = append_cancel_left (codes "module ") (m.name ++ (10 ∷ lines_of 0 Listed 0 m.ops)) (n.name ++ (10 ∷ lines_of 0 Listed 0 n.ops)) (sym (module_text-then m) ∙ (same ∙ module_text-then n)) in
    let names = same_run is_word_byte m.name n.name (10 ∷ lines_of 0 Listed 0 m.ops) (10 ∷ lines_of 0 Listed 0 n.ops) (name_bytes m.name write_m.name) (name_bytes n.name write_n.name) refl refl past in
    let ops = ops_law (hidden-the_row-Op-1 m.ops) 0 Listed 0 _ (hidden-the_row-Op-1 n.ops) [] [] refl (good m keeps_m write_m) (good n keeps_n write_n) refl refl (as_row m ∙ (tails names.1 ∙ sym (as_row n))) in
    let lists : shown_in m.ops ≡ shown_in n.ops = sym (shown-list m.ops) ∙ (ops.0 ∙ shown-list n.ops) in
    λ i. record { name = names.0 i; ops = lists i }
