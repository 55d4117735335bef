-- Which tokens say a statement, apart from its place: each form is a rule of the grammar, over what follows its first word.
use Rattle.std.specs.Prelude.{◌≡◌, ◌||◌, ℕ, Bool, true, false, Option, Some, None, List, [], ◌∷◌, ◌++◌, codes, if◌then◌else◌, ⊤}
use Rattle.ws_lex.specs.declared.token.Sign.{Sign as Sign'}
use Rattle.ws_lex.specs.declared.token.Sign.TheVariants as sign
use Rattle.ws_lex.specs.declared.token.Token.{Token}
use Rattle.ws_lex.specs.declared.token.TokenKind.{TokenKind}
use Rattle.ws_lex.specs.declared.token.TokenKind.TheVariants.{Word, Digits, Sign, Directive}
use Rattle.ws_tree.specs.declared.expr.Expr.{Expr}
use Rattle.ws_tree.specs.declared.expr.Expr.TheVariants.{Named, Part}
use Rattle.ws_tree.specs.declared.expr.Sub.{Sub}
use Rattle.ws_tree.specs.declared.stmt.Body.{Body}
use Rattle.ws_tree.specs.declared.stmt.Body.TheVariants as body
use Rattle.ws_tree.specs.declared.stmt.Bound.{Bound}
use Rattle.ws_tree.specs.declared.stmt.Bound.TheVariants as bound
use Rattle.ws_tree.specs.declared.stmt.Decl.{Decl}
use Rattle.ws_tree.specs.declared.stmt.Index.{Index}
use Rattle.ws_tree.specs.declared.stmt.Part.{Part as Allocation}
use Rattle.ws_tree.specs.declared.stmt.Stmt.{Stmt}
use Rattle.ws_tree.specs.Words.{is_other_call}
use Rattle.ws_expr.specs.declared.reading.Reading.{Reading}
use Rattle.ws_expr.specs.declared.reading.Gathered.{Gathered}
use Rattle.ws_expr.specs.Readings.{node, leaf, only, with_one, tree_of, odd_of}
use Rattle.ws_expr.specs.Grammar.{Reads, ReadsSubs}
use Rattle.ws_expr.specs.Parsing.{Follows}
use Rattle.ws_stmt.specs.declared.role.Block.{Block}
use Rattle.ws_stmt.specs.declared.role.Block.TheVariants as block
use Rattle.ws_stmt.specs.declared.form.Attribute.{Attribute}
use Rattle.ws_stmt.specs.declared.form.Attribute.TheVariants as attribute
use Rattle.ws_stmt.specs.declared.form.Form.{Form}
use Rattle.ws_stmt.specs.declared.form.Form.TheVariants as form
use Rattle.ws_stmt.specs.declared.form.Said.{Said}
use Rattle.ws_stmt.specs.declared.form.Start.{Start}
use Rattle.ws_stmt.specs.declared.form.Start.TheVariants as start
use Rattle.ws_stmt.specs.Roles.{is_word, is_directive, begins_word, is_nothing, is_open, assigns}

-- ---- one token, and what follows it

abbrev pub Names : List ℕ → List Token → List Token → Type 0
Names x ts rest = (t : Token) × (t.what ≡ Word x) × (ts ≡ t ∷ rest)

abbrev pub Has : (TokenKind → Bool) → List Token → List Token → Type 0
Has p ts rest = (t : Token) × (p t.what ≡ true) × (ts ≡ t ∷ rest)

abbrev pub HasWord : List ℕ → List Token → List Token → Type 0
HasWord w = Has (is_word w)

abbrev pub is_digits : TokenKind → Bool
is_digits (Digits d) = true
is_digits _ = false

-- ---- parts of statements. Where a part has no depth of its own, the depth of its reading is 0.

abbrev pub part_of : {A : Type 0} → A → Bool → Reading A
part_of x odd = record { tree = x; depth = 0; odd = odd }

-- item {, item}
pub data Lists {A : Type 0} (P : List Token → Reading A → List Token → Type 0) : List Token → Gathered A → List Token → Type 0 where
  first : {ts rest : List Token} {x : Reading A} → P ts x rest → Lists P ts (only x) rest
  next : {ts us vs rest : List Token} {xs : Gathered A} {x : Reading A} → Lists P ts xs us → Follows sign.Comma us vs → P vs x rest → Lists P ts (with_one xs x) rest

-- ( item {, item} )
pub record ListsInParens {A : Type 0} (P : List Token → Reading A → List Token → Type 0) (ts : List Token) (xs : Gathered A) (rest : List Token) : Type 0 where
  pub us : List Token
  pub vs : List Token
  pub opens : Follows sign.Open ts us
  pub lists : Lists P us xs vs
  pub closes : Follows sign.Close vs rest

-- ( expr )
pub record InParens (ts : List Token) (e : Reading Expr) (rest : List Token) : Type 0 where
  pub us : List Token
  pub vs : List Token
  pub opens : Follows sign.Open ts us
  pub reads : Reads 8 us e vs
  pub closes : Follows sign.Close vs rest

-- a word of calls that are left out is left out as an array as well
abbrev pub element : List ℕ → Gathered Sub → Reading Expr
element x subs = node subs.depth (subs.odd || is_other_call x) (Part x subs.trees)

-- name [( sub {, sub} )]
pub data Designates : List Token → Reading Expr → List Token → Type 0 where
  whole : {x : List ℕ} {ts rest : List Token} → Names x ts rest → Designates ts (leaf (Named x)) rest
  subscripted : {x : List ℕ} {ts us vs ws rest : List Token} {subs : Gathered Sub} →
      Names x ts us → Follows sign.Open us vs → ReadsSubs vs subs ws → Follows sign.Close ws rest → Designates ts (element x subs) rest

abbrev pub upper_of : Reading Expr → Reading Bound
upper_of u = part_of (bound.Upper u.tree) u.odd

abbrev pub both_of : Reading Expr → Reading Expr → Reading Bound
both_of l u = part_of (bound.Both l.tree u.tree) (l.odd || u.odd)

-- expr | expr : expr | :
pub data ReadsBound : List Token → Reading Bound → List Token → Type 0 where
  upper : {ts rest : List Token} {u : Reading Expr} → Reads 8 ts u rest → ReadsBound ts (upper_of u) rest
  both : {ts us vs rest : List Token} {l u : Reading Expr} → Reads 8 ts l us → Follows sign.Colon us vs → Reads 8 vs u rest → ReadsBound ts (both_of l u) rest
  deferred : {ts rest : List Token} → Follows sign.Colon ts rest → ReadsBound ts (part_of bound.Deferred false) rest

-- ( bound {, bound} )
abbrev pub ReadsShape : List Token → Gathered Bound → List Token → Type 0
ReadsShape = ListsInParens ReadsBound

-- [mark expr], as [: expr] or [, expr]
pub data ReadsLast (mark : Sign') : List Token → Option (Reading Expr) → List Token → Type 0 where
  omitted : {ts : List Token} → ReadsLast mark ts None ts
  last : {ts us rest : List Token} {e : Reading Expr} → Follows mark ts us → Reads 8 us e rest → ReadsLast mark ts (Some e) rest

abbrev pub index_of : List ℕ → Reading Expr → Reading Expr → Option (Reading Expr) → Reading Index
index_of x l u s = part_of (record { name = x; l = l.tree; u = u.tree; s = tree_of s }) ((l.odd || u.odd) || odd_of s)

-- name = expr mark expr [mark expr], with `:` in a header and `,` in DO
pub record ReadsIndex (mark : Sign') (ts : List Token) (i : Reading Index) (rest : List Token) : Type 0 where
  pub x : List ℕ
  pub l : Reading Expr
  pub u : Reading Expr
  pub s : Option (Reading Expr)
  pub us : List Token
  pub vs : List Token
  pub ws : List Token
  pub xs : List Token
  pub ys : List Token
  pub names : Names x ts us
  pub becomes : Follows sign.Becomes us vs
  pub first : Reads 8 vs l ws
  pub then_mark : Follows mark ws xs
  pub second : Reads 8 xs u ys
  pub step : ReadsLast mark ys s rest
  pub is : i ≡ index_of x l u s

abbrev pub allocation_of : List ℕ → Gathered Bound → Reading Allocation
allocation_of x bounds = part_of (record { name = x; shape = bounds.trees }) (bounds.odd || is_other_call x)

-- name ( shape )
pub record ReadsAllocation (ts : List Token) (p : Reading Allocation) (rest : List Token) : Type 0 where
  pub x : List ℕ
  pub us : List Token
  pub bounds : Gathered Bound
  pub names : Names x ts us
  pub shape : ReadsShape us bounds rest
  pub is : p ≡ allocation_of x bounds

pub record ReadsName (ts : List Token) (p : Reading (List ℕ)) (rest : List Token) : Type 0 where
  pub x : List ℕ
  pub names : Names x ts rest
  pub is : p ≡ part_of x false

-- ---- declarations

-- a kind is left out: ( expr ), ( KIND = expr ), * digits, * ( expr )
pub data ReadsKind : List Token → Bool → List Token → Type 0 where
  no_kind : {ts : List Token} → ReadsKind ts false ts
  kind : {ts rest : List Token} {e : Reading Expr} → InParens ts e rest → ReadsKind ts true rest
  named_kind : {ts us vs ws xs rest : List Token} {e : Reading Expr} →
      Follows sign.Open ts us → HasWord (codes "kind") us vs → Follows sign.Becomes vs ws → Reads 8 ws e xs → Follows sign.Close xs rest → ReadsKind ts true rest
  starred : {ts us rest : List Token} → Follows sign.Star ts us → Has is_digits us rest → ReadsKind ts true rest
  starred_kind : {ts us rest : List Token} {e : Reading Expr} → Follows sign.Star ts us → InParens us e rest → ReadsKind ts true rest

-- Of several shapes the last one counts. It is kept as the tokens that it begins; there are none without DIMENSION.
pub record Attributes : Type 0 where
  pub constant : Bool
  pub allocatable : Bool
  pub dimension : List Token
  pub some : Bool

abbrev pub no_attribute : Attributes
no_attribute = record { constant = false; allocatable = false; dimension = []; some = false }

abbrev pub attribute_of : TokenKind → Option Attribute
attribute_of k =
    if is_word (codes "parameter") k then Some attribute.Parameter else
    (if is_word (codes "allocatable") k then Some attribute.Allocatable else
    (if is_word (codes "dimension") k then Some attribute.Dimension else None))

abbrev pub HasAttribute : Attribute → List Token → List Token → Type 0
HasAttribute w ts rest = (t : Token) × (attribute_of t.what ≡ Some w) × (ts ≡ t ∷ rest)

-- PARAMETER | ALLOCATABLE | DIMENSION ( shape )
pub data ReadsAttribute (a : Attributes) : List Token → Attributes → List Token → Type 0 where
  parameter : {ts rest : List Token} → HasAttribute attribute.Parameter ts rest → ReadsAttribute a ts (record a { constant = true; some = true }) rest
  allocatable : {ts rest : List Token} → HasAttribute attribute.Allocatable ts rest → ReadsAttribute a ts (record a { allocatable = true; some = true }) rest
  dimension : {ts us rest : List Token} {bounds : Gathered Bound} → HasAttribute attribute.Dimension ts us → ReadsShape us bounds rest → ReadsAttribute a ts (record a { dimension = us; some = true }) rest

-- {, attr}
pub data ReadsAttributes : List Token → Attributes → List Token → Type 0 where
  no_attributes : {ts : List Token} → ReadsAttributes ts no_attribute ts
  attributes : {ts us vs rest : List Token} {a b : Attributes} → ReadsAttributes ts a us → Follows sign.Comma us vs → ReadsAttribute a vs b rest → ReadsAttributes ts b rest

-- the shape of an entity, which is its own or that of DIMENSION; the rules hold for a shape that an entity takes
pub data ReadsExtent (dimension : List Token) : List Token → List Bound → Bool → List Token → Type 0 where
  own : {ts rest : List Token} {bounds : Gathered Bound} → ReadsShape ts bounds rest → ReadsExtent dimension ts bounds.trees bounds.odd rest
  taken : {ts rest : List Token} {bounds : Gathered Bound} → ReadsShape dimension bounds rest → ReadsExtent dimension ts bounds.trees bounds.odd ts
  scalar : {ts : List Token} → dimension ≡ [] → ReadsExtent dimension ts [] false ts

-- [= expr], which stands exactly with PARAMETER
pub data ReadsValue : Bool → List Token → Option (Reading Expr) → List Token → Type 0 where
  variable : {ts : List Token} → ReadsValue false ts None ts
  constant : {ts us rest : List Token} {e : Reading Expr} → Follows sign.Becomes ts us → Reads 8 us e rest → ReadsValue true ts (Some e) rest

abbrev pub declared : ℕ → Bool → Attributes → List ℕ → List Bound → Option (Reading Expr) → Decl
declared line truth a x bounds value = record { line = line; truth = truth; constant = tree_of value; allocatable = a.allocatable; name = x; shape = bounds }

abbrev pub entity_of : ℕ → Bool → Attributes → List ℕ → List Bound → Bool → Option (Reading Expr) → Reading Decl
entity_of line truth a x bounds odd value = part_of (declared line truth a x bounds value) (odd || odd_of value)

-- name [( shape )] [= expr]
pub record ReadsEntity (line : ℕ) (truth : Bool) (a : Attributes) (ts : List Token) (d : Reading Decl) (rest : List Token) : Type 0 where
  pub x : List ℕ
  pub us : List Token
  pub vs : List Token
  pub bounds : List Bound
  pub odd : Bool
  pub value : Option (Reading Expr)
  pub names : Names x ts us
  pub extent : ReadsExtent a.dimension us bounds odd vs
  pub becomes : ReadsValue a.constant vs value rest
  pub is : d ≡ entity_of line truth a x bounds odd value

-- [::], which an attribute needs
pub data ReadsColons : Bool → List Token → List Token → Type 0 where
  colons : {some : Bool} {ts rest : List Token} → Follows sign.DoubleColon ts rest → ReadsColons some ts rest
  no_colons : {ts : List Token} → ReadsColons false ts ts

-- ---- forms

abbrev pub said : Form → Bool → Said
said f odd = record { form = f; odd = odd }

abbrev pub assignment_of : Reading Expr → Reading Expr → Reading Body
assignment_of left right = part_of (body.Assign left.tree right.tree) (left.odd || right.odd)

-- name [( sub {, sub} )] = expr
pub record Assigns (ts : List Token) (b : Reading Body) : Type 0 where
  pub us : List Token
  pub vs : List Token
  pub left : Reading Expr
  pub right : Reading Expr
  pub designates : Designates ts left us
  pub becomes : Follows sign.Becomes us vs
  pub reads : Reads 8 vs right []
  pub is : b ≡ assignment_of left right

pub record SaysAssignment (ts : List Token) (s : Said) : Type 0 where
  pub b : Reading Body
  pub assigns : Assigns ts b
  pub is : s ≡ said (form.Acts b.tree) b.odd

pub record SaysProgram (ts : List Token) (s : Said) : Type 0 where
  pub x : List ℕ
  pub names : Names x ts []
  pub is : s ≡ said (form.Program x) false

pub record SaysImplicit (ts : List Token) (s : Said) : Type 0 where
  pub none : HasWord (codes "none") ts []
  pub is : s ≡ said form.ImplicitNone false

pub record SaysDeclaration (line : ℕ) (truth : Bool) (ts : List Token) (s : Said) : Type 0 where
  pub us : List Token
  pub vs : List Token
  pub ws : List Token
  pub odd : Bool
  pub a : Attributes
  pub ds : Gathered Decl
  pub kind : ReadsKind ts odd us
  pub attributes : ReadsAttributes us a vs
  pub colons : ReadsColons a.some vs ws
  pub entities : Lists (ReadsEntity line truth a) ws ds []
  pub is : s ≡ said (form.Declares ds.trees) (odd || ds.odd)

abbrev pub one_statement : ℕ → Body → List Stmt
one_statement line b = record { line = line; body = b } ∷ []

abbrev pub masked_said : ℕ → Reading Expr → Reading Body → Said
masked_said line m b = said (form.Acts (body.Masked m.tree (one_statement line b.tree) [])) (m.odd || b.odd)

-- WHERE ( expr ) [assign]
pub data SaysWhere (line : ℕ) (ts : List Token) : Said → Type 0 where
  masked : {us : List Token} {m : Reading Expr} {b : Reading Body} → InParens ts m us → Assigns us b → SaysWhere line ts (masked_said line m b)
  masking : {m : Reading Expr} → InParens ts m [] → SaysWhere line ts (said (form.OpensWhere m.tree) m.odd)

-- ELSEWHERE [( expr )]
pub data SaysElse (ts : List Token) : Said → Type 0 where
  otherwise : ts ≡ [] → SaysElse ts (said (form.OpensElse None) false)
  else_masking : {m : Reading Expr} → InParens ts m [] → SaysElse ts (said (form.OpensElse (Some m.tree)) m.odd)

-- ELSE WHERE [( expr )]
pub record SaysApart (ts : List Token) (s : Said) : Type 0 where
  pub us : List Token
  pub where' : HasWord (codes "where") ts us
  pub otherwise : SaysElse us s

-- ( index {, index} [, expr] )
pub record ReadsHeader (ts : List Token) (indexes : Gathered Index) (m : Option (Reading Expr)) (rest : List Token) : Type 0 where
  pub us : List Token
  pub vs : List Token
  pub ws : List Token
  pub opens : Follows sign.Open ts us
  pub lists : Lists (ReadsIndex sign.Colon) us indexes vs
  pub mask : ReadsLast sign.Comma vs m ws
  pub closes : Follows sign.Close ws rest

abbrev pub over_said : ℕ → Gathered Index → Option (Reading Expr) → Reading Body → Said
over_said line is m b = said (form.Acts (body.Forall is.trees (tree_of m) (one_statement line b.tree))) ((is.odd || odd_of m) || b.odd)

abbrev pub spanning_said : Gathered Index → Option (Reading Expr) → Said
spanning_said is m = said (form.OpensForall is.trees (tree_of m)) (is.odd || odd_of m)

-- FORALL ( header ) [assign]
pub data SaysForall (line : ℕ) (ts : List Token) : Said → Type 0 where
  over : {us : List Token} {is : Gathered Index} {m : Option (Reading Expr)} {b : Reading Body} →
      ReadsHeader ts is m us → Assigns us b → SaysForall line ts (over_said line is m b)
  spanning : {is : Gathered Index} {m : Option (Reading Expr)} → ReadsHeader ts is m [] → SaysForall line ts (spanning_said is m)

-- DO name = expr , expr [, expr]
pub record SaysDo (ts : List Token) (s : Said) : Type 0 where
  pub i : Reading Index
  pub index : ReadsIndex sign.Comma ts i []
  pub is : s ≡ said (form.OpensDo i.tree) i.odd

-- ALLOCATE ( name ( shape ) {, name ( shape )} )
pub record SaysAllocate (ts : List Token) (s : Said) : Type 0 where
  pub ps : Gathered Allocation
  pub arrays : ListsInParens ReadsAllocation ts ps []
  pub is : s ≡ said (form.Acts (body.Allocate ps.trees)) ps.odd

-- DEALLOCATE ( name {, name} )
pub record SaysDeallocate (ts : List Token) (s : Said) : Type 0 where
  pub xs : Gathered (List ℕ)
  pub arrays : ListsInParens ReadsName ts xs []
  pub is : s ≡ said (form.Acts (body.Deallocate xs.trees)) xs.odd

-- * , or ( * , * )
pub data ReadsFormat : List Token → List Token → Type 0 where
  standard : {ts us rest : List Token} → Follows sign.Star ts us → Follows sign.Comma us rest → ReadsFormat ts rest
  standard_unit : {ts us vs ws xs rest : List Token} → Follows sign.Open ts us → Follows sign.Star us vs → Follows sign.Comma vs ws → Follows sign.Star ws xs → Follows sign.Close xs rest → ReadsFormat ts rest

-- READ * , item {, item} | READ ( * , * ) item {, item}
pub record SaysRead (ts : List Token) (s : Said) : Type 0 where
  pub us : List Token
  pub es : Gathered Expr
  pub format : ReadsFormat ts us
  pub lists : Lists Designates us es []
  pub is : s ≡ said (form.Acts (body.Read es.trees)) es.odd

-- ---- forms of words alone

abbrev pub named_end : TokenKind → Option Form
named_end (Word x) = Some (form.EndsProgram (Some x))
named_end _ = None

-- [name]
abbrev pub program_end : List Token → Option Form
program_end [] = Some (form.EndsProgram None)
program_end (t ∷ []) = named_end t.what
program_end _ = None

abbrev pub alone : Form → List Token → Option Form
alone f [] = Some f
alone f _ = None

-- END [DO | WHERE | FORALL | PROGRAM [name]]
abbrev pub end_form : List Token → Option Form
end_form [] = Some (form.EndsProgram None)
end_form (t ∷ ts) =
    if is_word (codes "do") t.what then alone (form.Closes block.Do) ts else
    (if is_word (codes "where") t.what then alone (form.Closes block.Where) ts else
    (if is_word (codes "forall") t.what then alone (form.Closes block.Forall) ts else
    (if is_word (codes "program") t.what then program_end ts else None)))

abbrev pub is_close : TokenKind → Bool
is_close (Sign sign.Close) = true
is_close _ = false

-- [DEFAULT(SHARED)]
abbrev pub is_shared : List Token → Bool
is_shared [] = true
is_shared (a ∷ b ∷ c ∷ d ∷ []) = if is_word (codes "default") a.what then (if is_open b.what then (if is_word (codes "shared") c.what then is_close d.what else false) else false) else false
is_shared _ = false

-- PARALLEL [WORKSHARE] [DEFAULT(SHARED)]
abbrev pub parallel_form : List Token → Option Form
parallel_form [] = Some (form.OpensRegion block.Parallel)
parallel_form (t ∷ ts) =
    if is_word (codes "workshare") t.what then (if is_shared ts then Some (form.OpensRegion block.ParallelWorkshare) else None) else
    (if is_shared (t ∷ ts) then Some (form.OpensRegion block.Parallel) else None)

-- the end of a block where nothing follows, and that of another where the word follows alone
abbrev pub end_by : Block → List ℕ → Block → List Token → Option Form
end_by b w other [] = Some (form.Closes b)
end_by b w other (t ∷ []) = if is_word w t.what then Some (form.Closes other) else None
end_by b w other _ = None

-- WORKSHARE [NOWAIT]
abbrev pub workshare_end : List Token → Option Form
workshare_end = end_by block.Workshare (codes "nowait") block.Workshare

-- PARALLEL [WORKSHARE]
abbrev pub parallel_end : List Token → Option Form
parallel_end = end_by block.Parallel (codes "workshare") block.ParallelWorkshare

-- after END in a directive
abbrev pub region_end : List Token → Option Form
region_end [] = None
region_end (t ∷ ts) =
    if is_word (codes "workshare") t.what then workshare_end ts else
    (if is_word (codes "parallel") t.what then parallel_end ts else None)

-- the directives, after `!$omp`
abbrev pub directive_form : List Token → Option Form
directive_form [] = None
directive_form (t ∷ ts) =
    if is_word (codes "end") t.what then region_end ts else
    (if is_word (codes "workshare") t.what then alone (form.OpensRegion block.Workshare) ts else
    (if is_word (codes "parallel") t.what then parallel_form ts else None))

pub record SaysWords (f : Option Form) (s : Said) : Type 0 where
  pub g : Form
  pub there : f ≡ Some g
  pub is : s ≡ said g false

-- ---- a statement

-- the form that the first word begins
abbrev pub word_start : List ℕ → Start
word_start x =
    if is_word (codes "program") (Word x) then start.Program else
    (if is_word (codes "implicit") (Word x) then start.Implicit else
    (if is_word (codes "integer") (Word x) then start.Declaration false else
    (if is_word (codes "logical") (Word x) then start.Declaration true else
    (if is_word (codes "where") (Word x) then start.Where else
    (if is_word (codes "elsewhere") (Word x) then start.Elsewhere else
    (if is_word (codes "else") (Word x) then start.Else else
    (if is_word (codes "forall") (Word x) then start.Forall else
    (if is_word (codes "do") (Word x) then start.Do else
    (if is_word (codes "allocate") (Word x) then start.Allocate else
    (if is_word (codes "deallocate") (Word x) then start.Deallocate else
    (if is_word (codes "read") (Word x) then start.Read else
    (if is_word (codes "end") (Word x) then start.End else
    (if is_word (codes "enddo") (Word x) then start.EndOf block.Do else
    (if is_word (codes "endwhere") (Word x) then start.EndOf block.Where else
    (if is_word (codes "endforall") (Word x) then start.EndOf block.Forall else
    (if is_word (codes "endprogram") (Word x) then start.EndProgram else start.Other))))))))))))))))

-- Which form a statement may have: an assignment may begin with any word, and each other form has its own.
abbrev pub start_of : TokenKind → List Token → Start
start_of Directive ts = start.Directive
start_of (Word x) ts = if assigns ts then start.Assignment else word_start x
start_of _ ts = start.Other

abbrev pub SaysAs : Start → Token → List Token → Said → Type 0
SaysAs start.Assignment t ts s = SaysAssignment (t ∷ ts) s
SaysAs start.Program t ts s = SaysProgram ts s
SaysAs start.Implicit t ts s = SaysImplicit ts s
SaysAs (start.Declaration truth) t ts s = SaysDeclaration t.line truth ts s
SaysAs start.Where t ts s = SaysWhere t.line ts s
SaysAs start.Elsewhere t ts s = SaysElse ts s
SaysAs start.Else t ts s = SaysApart ts s
SaysAs start.Forall t ts s = SaysForall t.line ts s
SaysAs start.Do t ts s = SaysDo ts s
SaysAs start.Allocate t ts s = SaysAllocate ts s
SaysAs start.Deallocate t ts s = SaysDeallocate ts s
SaysAs start.Read t ts s = SaysRead ts s
SaysAs start.End t ts s = SaysWords (end_form ts) s
SaysAs (start.EndOf b) t ts s = SaysWords (alone (form.Closes b) ts) s
SaysAs start.EndProgram t ts s = SaysWords (program_end ts) s
SaysAs start.Directive t ts s = SaysWords (directive_form ts) s
SaysAs start.Other t ts s = ⊥

-- The tokens say a form. `odd` tells that a part of it is of the grammar and left out.
abbrev pub Says : List Token → Said → Type 0
Says [] s = ⊥
Says (t ∷ ts) s = SaysAs (start_of t.what ts) t ts s
