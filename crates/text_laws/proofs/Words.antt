-- The word of an op stands for the op, but for what else its line holds.
use Rattle.std.proofs.Common.{◌≡◌, refl, sym, ap, ◌∙◌, ℕ, Bool, true, false, ◌==◌, List, [], ◌∷◌, ◌++◌, Option, Some, None, ℤ, pos}
use Rattle.std.specs.Prelude.{if◌then◌else◌}
use Rattle.std.proofs.lemmas.List.{append_cancel_left}
use Rattle.ws_base.specs.declared.name.Name.{Name}
use Rattle.hlfir_ops.specs.declared.what.What.{What}
use Rattle.hlfir_ops.specs.declared.what.What.TheVariants as what
use Rattle.hlfir_ops.specs.declared.what.SubKind.{SubKind}
use Rattle.hlfir_ops.specs.declared.what.ValueUnary.{ValueUnary}
use Rattle.hlfir_ops.specs.declared.what.ValueUnary.TheVariants as unary
use Rattle.hlfir_ops.specs.declared.what.ValueBinary.{ValueBinary}
use Rattle.hlfir_ops.specs.declared.what.ValueBinary.TheVariants as binary
use Rattle.hlfir_ops.specs.declared.what.BoundWord.{BoundWord}
use Rattle.hlfir_ops.specs.declared.what.BoundWord.TheVariants as bound
use Rattle.hlfir_ops.specs.declared.what.Reduction.{Reduction}
use Rattle.hlfir_ops.specs.declared.what.Reduction.TheVariants as reduction
use Rattle.hlfir_text.specs.OpText.{word}

-- ---- what an op holds beside its word

pub record Held : Type 0 where
  pub name : Name
  pub names : List Name
  pub flag : Bool
  pub value : ℤ
  pub dim : ℕ
  pub subs : List SubKind

abbrev pub nothing : Held
nothing = record { name = []; names = []; flag = false; value = pos 0; dim = 0; subs = [] }

abbrev pub held : What → Held
held (what.Declare name) = record nothing { name = name }
held (what.Assign realloc) = record nothing { flag = realloc }
held what.Masked = nothing
held what.Elsewhere = nothing
held (what.Forall names) = record nothing { names = names }
held what.ForallMask = nothing
held what.Workshare = nothing
held what.DoLoop = nothing
held (what.Allocmem also) = record nothing { flag = also }
held (what.Freemem also) = record nothing { flag = also }
held (what.Read also) = record nothing { flag = also }
held what.Yield = nothing
held what.YieldElement = nothing
held (what.Constant value) = record nothing { value = value }
held (what.Unary op) = nothing
held (what.Binary op) = nothing
held what.Select = nothing
held what.Load = nothing
held what.Boxed = nothing
held (what.Bound w dim) = record nothing { dim = dim }
held what.Size = nothing
held what.Allocated = nothing
held (what.Designate subs) = record nothing { subs = subs }
held what.Vector = nothing
held what.AsExpr = nothing
held what.Elemental = nothing
held what.Apply = nothing
held (what.Reduce r) = nothing

-- the op of the same word that holds this
abbrev pub holding : Held → What → What
holding p (what.Declare name) = what.Declare p.name
holding p (what.Assign realloc) = what.Assign p.flag
holding p (what.Forall names) = what.Forall p.names
holding p (what.Allocmem also) = what.Allocmem p.flag
holding p (what.Freemem also) = what.Freemem p.flag
holding p (what.Read also) = what.Read p.flag
holding p (what.Constant value) = what.Constant p.value
holding p (what.Bound w dim) = what.Bound w p.dim
holding p (what.Designate subs) = what.Designate p.subs
holding p w = w

abbrev plain : What → What
plain w = holding nothing w

holding-own : (w : What) → holding (held w) w ≡ w
holding-own (what.Declare name) = refl
holding-own _ = refl

holding-plain : (p : Held) (w : What) → holding p (plain w) ≡ holding p w
holding-plain p (what.Declare name) = refl
holding-plain p _ = refl

word-plain : (w : What) → word (plain w) ≡ word w
word-plain (what.Declare name) = refl
word-plain _ = refl

-- ---- reading a word: one that begins with another stands before it

abbrev all_words : List What
all_words =
    what.Declare [] ∷ what.Assign false ∷ what.Masked ∷ what.Elsewhere ∷ what.ForallMask ∷ what.Forall [] ∷ what.Workshare ∷ what.DoLoop ∷
    what.Allocmem false ∷ what.Freemem false ∷ what.Read false ∷ what.YieldElement ∷ what.Yield ∷ what.Constant (pos 0) ∷ what.Unary unary.Neg ∷
    what.Unary unary.Abs ∷ what.Unary unary.Not ∷ what.Binary binary.Add ∷ what.Binary binary.Sub ∷ what.Binary binary.Mul ∷ what.Binary binary.Div ∷
    what.Binary binary.Min ∷ what.Binary binary.Max ∷ what.Binary binary.Pow ∷ what.Binary binary.Modulo ∷ what.Binary binary.Mod ∷
    what.Binary binary.Eq ∷ what.Binary binary.Ne ∷ what.Binary binary.Lt ∷ what.Binary binary.Le ∷ what.Binary binary.Gt ∷ what.Binary binary.Ge ∷
    what.Binary binary.And ∷ what.Binary binary.Or ∷ what.Binary binary.Eqv ∷ what.Binary binary.Neqv ∷ what.Select ∷ what.Load ∷ what.Boxed ∷
    what.Bound bound.Lower 0 ∷ what.Bound bound.Upper 0 ∷ what.Bound bound.Lbound 0 ∷ what.Bound bound.Ubound 0 ∷ what.Bound bound.Extent 0 ∷
    what.Size ∷ what.Allocated ∷ what.Designate [] ∷ what.Vector ∷ what.AsExpr ∷ what.Elemental ∷ what.Apply ∷ what.Reduce reduction.Sum ∷
    what.Reduce reduction.Product ∷ what.Reduce reduction.Minval ∷ what.Reduce reduction.Maxval ∷ what.Reduce reduction.Count ∷
    what.Reduce reduction.Any ∷ what.Reduce reduction.All ∷ []

abbrev begins_with : List ℕ → List ℕ → Bool
begins_with [] s = true
begins_with (c ∷ cs) [] = false
begins_with (c ∷ cs) (d ∷ ds) = if c == d then begins_with cs ds else false

abbrev first_of_these : List What → List ℕ → Option What
first_of_these [] s = None
first_of_these (w ∷ ws) s = if begins_with (word w) s then Some w else first_of_these ws s

abbrev read : List ℕ → Option What
read = first_of_these all_words

-- A word ends where the line ends or a blank stands.
abbrev Read : What → Type 0
Read w = ((s : List ℕ) → read (word w ++ (10 ∷ s)) ≡ Some (plain w)) × ((s : List ℕ) → read (word w ++ (32 ∷ s)) ≡ Some (plain w))

read-unary : (op : ValueUnary) → Read (what.Unary op)
read-unary unary.Neg = ((λ s. refl), (λ s. refl))
read-unary _ = ((λ s. refl), (λ s. refl))

read-binary : (op : ValueBinary) → Read (what.Binary op)
read-binary binary.Add = ((λ s. refl), (λ s. refl))
read-binary _ = ((λ s. refl), (λ s. refl))

read-bound : (w : BoundWord) (dim : ℕ) → Read (what.Bound w dim)
read-bound bound.Lower dim = ((λ s. refl), (λ s. refl))
read-bound _ dim = ((λ s. refl), (λ s. refl))

read-reduce : (r : Reduction) → Read (what.Reduce r)
read-reduce reduction.Sum = ((λ s. refl), (λ s. refl))
read-reduce _ = ((λ s. refl), (λ s. refl))

read-word : (w : What) → Read w
read-word (what.Unary op) = read-unary op
read-word (what.Binary op) = read-binary op
read-word (what.Bound w dim) = read-bound w dim
read-word (what.Reduce r) = read-reduce r
read-word _ = ((λ s. refl), (λ s. refl))

-- ---- words

pub data Spaced : List ℕ → Type 0 where
  at_line : {t : List ℕ} (s : List ℕ) → t ≡ 10 ∷ s → Spaced t
  at_blank : {t : List ℕ} (s : List ℕ) → t ≡ 32 ∷ s → Spaced t

read-spaced : (w : What) (s : List ℕ) → Spaced s → read (word w ++ s) ≡ Some (plain w)
read-spaced w s (at_line r e) = ap (λ t. read (word w ++ t)) e ∙ (read-word w).0 r
read-spaced w s (at_blank r e) = ap (λ t. read (word w ++ t)) e ∙ (read-word w).1 r

same_plain : (v w : What) → plain v ≡ plain w → w ≡ holding (held w) v
same_plain v w h = sym (holding-own w) ∙ (sym (holding-plain (held w) w) ∙ (ap (holding (held w)) (sym h) ∙ holding-plain (held w) v))

some_same : (v w : What) → Some v ≡ Some w → v ≡ w
some_same v w h = cc

pub same_word : (v w : What) (s t : List ℕ) → Spaced s → Spaced t → word v ++ s ≡ word w ++ t → (w ≡ holding (held w) v) × (s ≡ t)
same_word v w s t p q h =
    let read_both : Some (plain v) ≡ Some (plain w) = sym (read-spaced v s p) ∙ (ap read h ∙ read-spaced w t q) in
    let plains : plain v ≡ plain w = some_same (plain v) (plain w) read_both in
    let words : word v ≡ word w = sym (word-plain v) ∙ (ap word plains ∙ word-plain w) in
    (same_plain v w plains, append_cancel_left (word v) s t (h ∙ ap (λ x. x ++ t) (sym words)))
