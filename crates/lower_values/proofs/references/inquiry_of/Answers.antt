use Rattle.std.proofs.Common.{refl, sym, ap, ◌∙◌}
use Rattle.lower_values.specs.Lowerings.{◌>>=◌, scoped}
use Rattle.lower_values.specs.References.{declare_of, reference, bound_word, bound_or_size, is_allocated}
use Rattle.lower_values.proofs.Appended.{appends-by, appends-next, appends-scoped, if-map}
use Rattle.lower_values.proofs.Named.{chosen}
use Rattle.lower_values.proofs.references.inquiry_of.Goals as goal

pub returns-then-is_allocated_word : goal.returns-then-is_allocated_word
returns-then-is_allocated_word c =
    let names = c.args.names.now in
    let x = c.args.name.now in
    let other = reference x >>= bound_or_size (bound_word c.args.word) c.args.dim in
    if-map c.is_allocated.result (λ y h.
    appends-by (ap (λ b. chosen b (scoped (λ s. is_allocated (declare_of s.names x))) other) (sym c.if-is_allocated_word.true ∙ c.is_allocated_word.ensures)) refl
    (appends-scoped names (λ s. is_allocated (declare_of s.names x)) c.args.build.now c.is_allocated.new.build y (appends-by (ap is_allocated c.declare_of.ensures) refl (h names)))) c.is_allocated.ensures

pub returns : goal.returns
returns c =
    let names = c.args.names.now in
    let x = c.args.name.now in
    if-map c.bound_or_size.result (λ y h.
    appends-by (ap (λ b. chosen b (scoped (λ s. is_allocated (declare_of s.names x))) (reference x >>= bound_or_size (bound_word c.args.word) c.args.dim)) (sym c.if-is_allocated_word.false ∙ c.is_allocated_word.ensures)) refl
    (appends-next names (reference x) (bound_or_size (bound_word c.args.word) c.args.dim) c.args.build.now c.reference.new.build c.bound_or_size.new.build c.in_ok-array.array y c.in_ok-array.ensures
    (appends-by (ap (λ w. bound_or_size w c.args.dim c.in_ok-array.array) c.bound_word.ensures) refl (h names)))) c.bound_or_size.ensures
