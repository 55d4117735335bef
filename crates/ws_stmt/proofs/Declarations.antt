-- Declarations: what their first tokens say.
use Rattle.std.proofs.Common.{◌≡◌, ◌≢◌, ◌||◌, ℕ, Bool, true, false, not, Option, Some, None, List, [], ◌∷◌, codes, refl, sym, ap, ◌∙◌, subst, if◌then◌else◌}
use Rattle.ws_lex.specs.declared.token.Sign.{Sign as Sign'}
use Rattle.ws_lex.specs.declared.token.Sign.TheVariants as sign
use Rattle.ws_lex.specs.declared.token.Token.{Token}
use Rattle.ws_lex.specs.declared.token.TokenKind.{TokenKind}
use Rattle.ws_lex.specs.declared.token.TokenKind.TheVariants.{Word, Digits, Sign, Foreign, Directive, End}
use Rattle.ws_tree.specs.declared.expr.Expr.{Expr}
use Rattle.ws_tree.specs.declared.stmt.Bound.{Bound}
use Rattle.ws_tree.specs.declared.stmt.Decl.{Decl}
use Rattle.ws_expr.specs.declared.reading.Reading.{Reading}
use Rattle.ws_expr.specs.declared.reading.Gathered.{Gathered}
use Rattle.ws_expr.specs.Grammar.{Reads}
use Rattle.ws_expr.specs.Parsing.{Stops, Follows}
use Rattle.ws_expr.proofs.Heads as heads
use Rattle.ws_stmt.specs.Roles.{is_word, is_becomes, begins_becomes, is_nothing}
use Rattle.ws_stmt.specs.declared.form.Form.TheVariants as form
use Rattle.ws_stmt.specs.declared.form.Said.{Said}
use Rattle.ws_stmt.specs.declared.form.Attribute.{Attribute}
use Rattle.ws_stmt.specs.declared.form.Attribute.TheVariants as attribute
use Rattle.ws_stmt.specs.Statements.{Names, Has, HasWord, is_digits, InParens, ReadsKind, ReadsShape, Attributes, no_attribute, HasAttribute, ReadsAttribute, ReadsAttributes, ReadsExtent, ReadsValue, ReadsColons, ReadsEntity, Lists, entity_of, attribute_of, said, SaysDeclaration}
use Rattle.ws_stmt.specs.Statements.ReadsKind.{no_kind, kind, named_kind, starred, starred_kind}
use Rattle.ws_stmt.specs.Statements.ReadsAttribute.{parameter, allocatable, dimension}
use Rattle.ws_stmt.specs.Statements.ReadsAttributes.{no_attributes, attributes}
use Rattle.ws_stmt.specs.Statements.ReadsExtent.{own, taken, scalar}
use Rattle.ws_stmt.specs.Statements.ReadsValue.{variable, constant}
use Rattle.ws_stmt.specs.Statements.ReadsColons.{colons, no_colons}
use Rattle.ws_stmt.specs.Parsing.{Lacks, Ends, begins_index, is_name, after_kind}
use Rattle.ws_stmt.proofs.Lists.{parts}
use Rattle.ws_expr.proofs.Lists.{same_rest}
use Rattle.ws_stmt.proofs.Parts.{at, clash, same_name, lacks_ends, lacks_other, stops_becomes, stops_ends, no_index, becomes_is}

pub lacks_name : {x : List ℕ} {ts us : List Token} (s : Sign') → Names x ts us → Lacks s ts
lacks_name s n = λ vs f. let e = sym n.2 ∙ f.2 in let same : n.0 ≡ f.0 = cc in let no = sym n.1 ∙ ap (λ (t : Token). t.what) same ∙ f.1 in cc

-- ---- kinds

word_named : (w : List ℕ) (k : TokenKind) → is_word w k ≡ true → is_name k ≡ true
word_named w (Word x) h = refl
word_named w _ h = absurd cc

kind_same : (t u : Token) (ts : List Token) (b c : Bool) → is_word (codes "kind") t.what ≡ b → is_becomes u.what ≡ c → (begins_index (t ∷ u ∷ ts) ≡ true → ⊥) → if◌then◌else◌ b (if◌then◌else◌ c ts (t ∷ u ∷ ts)) (t ∷ u ∷ ts) ≡ t ∷ u ∷ ts
kind_same t u ts false c p q h = refl
kind_same t u ts true false p q h = refl
kind_same t u ts true true p q h = absurd (h (subst (λ (b : Bool). if◌then◌else◌ b (is_becomes u.what) false ≡ true) (sym (word_named (codes "kind") t.what p)) q))

after_kind_same : (us : List Token) → (begins_index us ≡ true → ⊥) → after_kind us ≡ us
after_kind_same [] h = refl
after_kind_same (t ∷ []) h = refl
after_kind_same (t ∷ u ∷ ts) h = kind_same t u ts (is_word (codes "kind") t.what) (is_becomes u.what) refl refl h

both_kind : (t u : Token) (ts : List Token) → is_word (codes "kind") t.what ≡ true → u.what ≡ Sign sign.Becomes → after_kind (t ∷ u ∷ ts) ≡ ts
both_kind t u ts p q = go (is_word (codes "kind") t.what) (is_becomes u.what) p (ap is_becomes q)
  where
    go : (b c : Bool) → b ≡ true → c ≡ true → if◌then◌else◌ b (if◌then◌else◌ c ts (t ∷ u ∷ ts)) (t ∷ u ∷ ts) ≡ ts
    go true true p q = refl
    go false c p q = absurd cc
    go true false p q = absurd cc

after_kind_named : {us vs ws : List Token} → HasWord (codes "kind") us vs → Follows sign.Becomes vs ws → after_kind us ≡ ws
after_kind_named {ws = ws} w f = ap after_kind (w.2 ∙ ap (λ (xs : List Token). w.0 ∷ xs) f.2) ∙ both_kind w.0 f.0 ws w.1 f.1

pub record InKind (inner : List Token) (odd : Bool) (rest : List Token) : Type 0 where
  pub e : Reading Expr
  pub mid : List Token
  pub read : Reads 8 (after_kind inner) e mid
  pub closes : Follows sign.Close mid rest
  pub is : true ≡ odd

pub kind_open : {ts inner rest : List Token} {odd : Bool} → Follows sign.Open ts inner → Lacks sign.Open rest → ReadsKind ts odd rest → InKind inner odd rest
kind_open {inner = inner} f h no_kind = absurd (h inner f)
kind_open {inner = inner} f h (kind {e = e} p) =
    let same = same_rest f p.opens in
    record { e = e; mid = p.vs; read = at (λ (xs : List Token). Reads 8 xs e p.vs) (ap after_kind same ∙ after_kind_same p.us (no_index p.reads p.closes)) p.reads; closes = p.closes; is = refl }
kind_open f h (named_kind {xs = xs} {e = e} o w b d c) =
    record { e = e; mid = xs; read = at (λ (ys : List Token). Reads 8 ys e xs) (ap after_kind (same_rest f o) ∙ after_kind_named w b) d; closes = c; is = refl }
kind_open f h (starred s d) = let no = clash f s in absurd cc
kind_open f h (starred_kind s p) = let no = clash f s in absurd cc

kind_in : (inner : List Token) {ts mid rest : List Token} {e : Reading Expr} → Follows sign.Open ts inner → Reads 8 (after_kind inner) e mid → Follows sign.Close mid rest → ReadsKind ts true rest
kind_in [] {mid = mid} f d c = kind (record { us = []; vs = mid; opens = f; reads = d; closes = c })
kind_in (t ∷ []) {mid = mid} f d c = kind (record { us = t ∷ []; vs = mid; opens = f; reads = d; closes = c })
kind_in (t ∷ u ∷ us) {ts = ts} {mid = mid} {rest = rest} {e = e} f d c = go (is_word (codes "kind") t.what) (is_becomes u.what) refl refl d
  where
    go : (a b : Bool) → is_word (codes "kind") t.what ≡ a → is_becomes u.what ≡ b → Reads 8 (if◌then◌else◌ a (if◌then◌else◌ b us (t ∷ u ∷ us)) (t ∷ u ∷ us)) e mid → ReadsKind ts true rest
    go false b p q d = kind (record { us = t ∷ u ∷ us; vs = mid; opens = f; reads = d; closes = c })
    go true false p q d = kind (record { us = t ∷ u ∷ us; vs = mid; opens = f; reads = d; closes = c })
    go true true p q d = named_kind f (t, p, refl) (u, becomes_is u.what q, refl) d c

pub kind_by : {ts inner inner' mid rest : List Token} {e : Reading Expr} → Follows sign.Open ts inner → inner' ≡ after_kind inner → Reads 8 inner' e mid → Follows sign.Close mid rest → ReadsKind ts true rest
kind_by {inner = inner} {mid = mid} {e = e} f p d c = kind_in inner f (subst (λ (xs : List Token). Reads 8 xs e mid) p d) c

pub kind_none : {ts rest : List Token} {odd : Bool} → Lacks sign.Open ts → Lacks sign.Star ts → ReadsKind ts odd rest → (false ≡ odd) × (ts ≡ rest)
kind_none h k no_kind = (refl, refl)
kind_none h k (kind p) = absurd (h p.us p.opens)
kind_none h k (named_kind {us = us} o w b d c) = absurd (h us o)
kind_none h k (starred {us = us} s d) = absurd (k us s)
kind_none h k (starred_kind {us = us} s p) = absurd (k us s)

pub data StarKind (us : List Token) (odd : Bool) (rest : List Token) : Type 0 where
  digits : Has is_digits us rest → true ≡ odd → StarKind us odd rest
  parens : (e : Reading Expr) → InParens us e rest → true ≡ odd → StarKind us odd rest

pub kind_star : {ts us rest : List Token} {odd : Bool} → Lacks sign.Open ts → Follows sign.Star ts us → Lacks sign.Star rest → ReadsKind ts odd rest → StarKind us odd rest
kind_star {us = us} h f k no_kind = absurd (k us f)
kind_star h f k (kind p) = absurd (h p.us p.opens)
kind_star h f k (named_kind {us = us} o w b d c) = absurd (h us o)
kind_star {rest = rest} h f k (starred s d) = digits (at (λ (xs : List Token). Has is_digits xs rest) (same_rest f s) d) refl
kind_star {rest = rest} h f k (starred_kind {e = e} s p) = parens e (at (λ (xs : List Token). InParens xs e rest) (same_rest f s) p) refl

digits_open : {us vs ws : List Token} → Has is_digits us vs → Follows sign.Open us ws → ⊥
digits_open d f = let e = sym d.2 ∙ f.2 in let same : d.0 ≡ f.0 = cc in let no = sym d.1 ∙ ap is_digits (ap (λ (t : Token). t.what) same ∙ f.1) in cc

pub star_digits : {us vs rest : List Token} {odd : Bool} → Has is_digits us vs → StarKind us odd rest → (true ≡ odd) × (vs ≡ rest)
star_digits d (digits g is) = let e = sym d.2 ∙ g.2 in (is, cc)
star_digits d (parens e p is) = absurd (digits_open d p.opens)

pub record StarParens (us : List Token) (odd : Bool) (rest : List Token) : Type 0 where
  pub e : Reading Expr
  pub parens : InParens us e rest
  pub is : true ≡ odd

pub star_parens : {us rest : List Token} {odd : Bool} → ((vs : List Token) → Has is_digits us vs → ⊥) → StarKind us odd rest → StarParens us odd rest
star_parens {rest = rest} none (digits g is) = absurd (none rest g)
star_parens none (parens e p is) = record { e = e; parens = p; is = is }

-- ---- attributes

pub data More : Attributes → List Token → Attributes → List Token → Type 0 where
  no_more : {a : Attributes} {ts : List Token} → More a ts a ts
  one_more : {ts us vs rest : List Token} {a b all : Attributes} → Follows sign.Comma ts us → ReadsAttribute a us b vs → More b vs all rest → More a ts all rest

then_one : {ts us vs rest : List Token} {a b c : Attributes} → More a ts b us → Follows sign.Comma us vs → ReadsAttribute b vs c rest → More a ts c rest
then_one no_more f d = one_more f d no_more
then_one (one_more g e more) f d = one_more g e (then_one more f d)

pub from_first : {ts rest : List Token} {a : Attributes} → ReadsAttributes ts a rest → More no_attribute ts a rest
from_first no_attributes = no_more
from_first (attributes ds f d) = then_one (from_first ds) f d

pub record Next (a : Attributes) (us : List Token) (all : Attributes) (rest : List Token) : Type 0 where
  pub b : Attributes
  pub after : List Token
  pub read : ReadsAttribute a us b after
  pub others : More b after all rest

pub next_attribute : {ts us rest : List Token} {a all : Attributes} → Follows sign.Comma ts us → Lacks sign.Comma rest → More a ts all rest → Next a us all rest
next_attribute {us = us} f h no_more = absurd (h us f)
next_attribute f h (one_more {vs = vs} {a = a} {b = b} g d more) = record { b = b; after = vs; read = at (λ (xs : List Token). ReadsAttribute a xs b vs) (same_rest f g) d; others = more }

pub more_at : {ts ts' rest : List Token} {a a' all : Attributes} → a ≡ a' → ts ≡ ts' → More a' ts' all rest → More a ts all rest
more_at {ts' = ts'} {rest = rest} {a = a} {all = all} p q d = at (λ (xs : List Token). More a xs all rest) q (at (λ (z : Attributes). More z ts' all rest) p d)

pub no_more_left : {ts rest : List Token} {a all : Attributes} → Lacks sign.Comma ts → More a ts all rest → (a ≡ all) × (ts ≡ rest)
no_more_left h no_more = (refl, refl)
no_more_left h (one_more {us = us} f d more) = absurd (h us f)

-- ---- what follows the parts of a declaration

module _ {line : ℕ} {truth : Bool} {a : Attributes} {ws rest : List Token} {ds : Gathered Decl} where
  pub entities_lack : (s : Sign') → Lists (ReadsEntity line truth a) ws ds rest → Lacks s ws
  entities_lack s es = let b = parts es in lacks_name s b.read.names

pub colons_lack : {some : Bool} {vs ws : List Token} (s : Sign') → Sign s ≢ Sign sign.DoubleColon → ReadsColons some vs ws → Lacks s ws → Lacks s vs
colons_lack s n (colons f) h = lacks_other n f
colons_lack s n no_colons h = h

more_lack : {a b : Attributes} {us vs : List Token} (s : Sign') → Sign s ≢ Sign sign.Comma → More a us b vs → Lacks s vs → Lacks s us
more_lack s n no_more h = h
more_lack s n (one_more f d more) h = lacks_other n f

pub attributes_lack : {a : Attributes} {us vs : List Token} (s : Sign') → Sign s ≢ Sign sign.Comma → ReadsAttributes us a vs → Lacks s vs → Lacks s us
attributes_lack s n d h = more_lack s n (from_first d) h

pub not_comma_open : Sign sign.Open ≢ Sign sign.Comma
not_comma_open = λ e. cc

pub not_comma_star : Sign sign.Star ≢ Sign sign.Comma
not_comma_star = λ e. cc

pub not_double_open : Sign sign.Open ≢ Sign sign.DoubleColon
not_double_open = λ e. cc

pub not_double_star : Sign sign.Star ≢ Sign sign.DoubleColon
not_double_star = λ e. cc

pub not_double_comma : Sign sign.Comma ≢ Sign sign.DoubleColon
not_double_comma = λ e. cc

-- ---- colons, extents and values

pub colons_some : {some : Bool} {ts us rest : List Token} → Follows sign.DoubleColon ts us → Lacks sign.DoubleColon rest → ReadsColons some ts rest → us ≡ rest
colons_some f h (colons g) = same_rest f g
colons_some {us = us} f h no_colons = absurd (h us f)

pub colons_needed : {some : Bool} {ts rest : List Token} → some ≡ true → Lacks sign.DoubleColon ts → ReadsColons some ts rest → ⊥
colons_needed p h (colons {rest = rest} g) = h rest g
colons_needed p h no_colons = cc

pub colons_none : {some : Bool} {ts rest : List Token} → Lacks sign.DoubleColon ts → ReadsColons some ts rest → ts ≡ rest
colons_none h (colons {rest = rest} g) = absurd (h rest g)
colons_none h no_colons = refl

pub no_colons_by : {some : Bool} {ts : List Token} → some ≡ false → ReadsColons some ts ts
no_colons_by {ts = ts} p = at (λ (b : Bool). ReadsColons b ts ts) p no_colons

pub record Own (ts : List Token) (bounds : List Bound) (odd : Bool) (rest : List Token) : Type 0 where
  pub all : Gathered Bound
  pub shape : ReadsShape ts all rest
  pub trees : all.trees ≡ bounds
  pub odds : all.odd ≡ odd

pub extent_own : {dim ts us rest : List Token} {bounds : List Bound} {odd : Bool} → Follows sign.Open ts us → Lacks sign.Open rest → ReadsExtent dim ts bounds odd rest → Own ts bounds odd rest
extent_own f h (own {bounds = bounds} s) = record { all = bounds; shape = s; trees = refl; odds = refl }
extent_own {us = us} f h (taken s) = absurd (h us f)
extent_own {us = us} f h (scalar p) = absurd (h us f)

no_shape : {rest : List Token} {bounds : Gathered Bound} → ReadsShape [] bounds rest → ⊥
no_shape s = let e = s.opens.2 in cc

pub extent_scalar : {dim ts rest : List Token} {bounds : List Bound} {odd : Bool} → Lacks sign.Open ts → dim ≡ [] → ReadsExtent dim ts bounds odd rest → ([] ≡ bounds) × (false ≡ odd) × (ts ≡ rest)
extent_scalar h p (own s) = absurd (h s.us s.opens)
extent_scalar h p (taken {rest = rest} {bounds = bounds} s) = absurd (no_shape (subst (λ (xs : List Token). ReadsShape xs bounds rest) p s))
extent_scalar h p (scalar q) = (refl, refl, refl)

pub record Taken (dim ts : List Token) (bounds : List Bound) (odd : Bool) (rest : List Token) : Type 0 where
  pub all : Gathered Bound
  pub after : List Token
  pub shape : ReadsShape dim all after
  pub trees : all.trees ≡ bounds
  pub odds : all.odd ≡ odd
  pub is : ts ≡ rest

pub extent_taken : {dim ts rest : List Token} {bounds : List Bound} {odd : Bool} → Lacks sign.Open ts → (dim ≡ [] → ⊥) → ReadsExtent dim ts bounds odd rest → Taken dim ts bounds odd rest
extent_taken h n (own s) = absurd (h s.us s.opens)
extent_taken h n (taken {rest = rest} {bounds = bounds} s) = record { all = bounds; after = rest; shape = s; trees = refl; odds = refl; is = refl }
extent_taken h n (scalar q) = absurd (n q)

pub record Valued (ts : List Token) (o : Option (Reading Expr)) (rest : List Token) : Type 0 where
  pub us : List Token
  pub e : Reading Expr
  pub becomes : Follows sign.Becomes ts us
  pub read : Reads 8 us e rest
  pub is : Some e ≡ o

pub value_some : {c : Bool} {ts rest : List Token} {o : Option (Reading Expr)} → c ≡ true → ReadsValue c ts o rest → Valued ts o rest
value_some p variable = absurd cc
value_some p (constant {us = us} {e = e} f d) = record { us = us; e = e; becomes = f; read = d; is = refl }

pub value_by : {c : Bool} {ts us rest : List Token} {e : Reading Expr} → c ≡ true → Follows sign.Becomes ts us → Reads 8 us e rest → ReadsValue c ts (Some e) rest
value_by {ts = ts} {rest = rest} {e = e} p f d = at (λ (b : Bool). ReadsValue b ts (Some e) rest) p (constant f d)

pub value_none : {c : Bool} {ts : List Token} → c ≡ false → ReadsValue c ts None ts
value_none {ts = ts} p = at (λ (b : Bool). ReadsValue b ts None ts) p variable

pub value_lacks : {c : Bool} {ts rest : List Token} {o : Option (Reading Expr)} → Ends rest → ReadsValue c ts o rest → Lacks sign.Open ts
value_lacks h variable = lacks_ends refl h
value_lacks h (constant f d) = λ us g. let no = clash g f in cc

pub entity_as : {line : ℕ} {truth : Bool} (a : Attributes) {x y : List ℕ} {bs cs : List Bound} {p q : Bool} {v w : Option (Reading Expr)} → x ≡ y → bs ≡ cs → p ≡ q → v ≡ w → entity_of line truth a x bs p v ≡ entity_of line truth a y cs q w
entity_as {line = line} {truth = truth} a {y = y} {bs = bs} {cs = cs} {p = p} {q = q} {v = v} e f g h =
    ap (λ (z : List ℕ). entity_of line truth a z bs p v) e ∙ ap (λ (z : List Bound). entity_of line truth a y z p v) f ∙ ap (λ (z : Bool). entity_of line truth a y cs z v) g ∙ ap (λ (z : Option (Reading Expr)). entity_of line truth a y cs q z) h

-- ---- attributes at the front

same_attribute : {v w : Attribute} {ts us vs : List Token} → HasAttribute v ts us → HasAttribute w ts vs → (Some v ≡ Some w) × (us ≡ vs)
same_attribute n m =
    let e = sym n.2 ∙ m.2 in
    let same : n.0 ≡ m.0 = cc in
    (sym n.1 ∙ ap (λ (t : Token). attribute_of t.what) same ∙ m.1, cc)

pub record Shaped (a : Attributes) (us : List Token) (b : Attributes) (rest : List Token) : Type 0 where
  pub bounds : Gathered Bound
  pub shape : ReadsShape us bounds rest
  pub is : record a { dimension = us; some = true } ≡ b

pub dimension_at : {a b : Attributes} {ts us rest : List Token} → HasAttribute attribute.Dimension ts us → ReadsAttribute a ts b rest → Shaped a us b rest
dimension_at h (parameter k) = let no = (same_attribute h k).0 in absurd cc
dimension_at h (allocatable k) = let no = (same_attribute h k).0 in absurd cc
dimension_at {a = a} {rest = rest} h (dimension {us = us} {bounds = bounds} k s) =
    let same = (same_attribute h k).1 in
    record { bounds = bounds; shape = at (λ (xs : List Token). ReadsShape xs bounds rest) same s; is = ap (λ (xs : List Token). record a { dimension = xs; some = true }) same }

-- ---- no token left

pub nothing : (ts : List Token) → is_nothing ts ≡ true → ts ≡ []
nothing [] h = refl
nothing (t ∷ ts) h = absurd cc

pub something : (ts : List Token) → is_nothing ts ≡ false → ts ≡ [] → ⊥
something ts h e = let no = sym h ∙ ap is_nothing e in cc

pub declares_as : {p q : Bool} {ds es : Gathered Decl} → p ≡ q → ds ≡ es → said (form.Declares ds.trees) (p || ds.odd) ≡ said (form.Declares es.trees) (q || es.odd)
declares_as {q = q} {ds = ds} e f = ap (λ (z : Bool). said (form.Declares ds.trees) (z || ds.odd)) e ∙ ap (λ (z : Gathered Decl). said (form.Declares z.trees) (q || z.odd)) f

pub scalar_by : {dim ts : List Token} {bounds : List Bound} → bounds ≡ [] → dim ≡ [] → ReadsExtent dim ts bounds false ts
scalar_by {dim = dim} {ts = ts} p q = at (λ (bs : List Bound). ReadsExtent dim ts bs false ts) p (scalar q)

-- ---- a whole declaration: what its parts lack, and the parts at equal tokens

module _ {line : ℕ} {truth : Bool} {ts : List Token} {s : Said} (d : SaysDeclaration line truth ts s) where
  pub kind_lacks_open : Lacks sign.Open d.us
  kind_lacks_open = attributes_lack sign.Open not_comma_open d.attributes (colons_lack sign.Open not_double_open d.colons (entities_lack sign.Open d.entities))

  pub kind_lacks_star : Lacks sign.Star d.us
  kind_lacks_star = attributes_lack sign.Star not_comma_star d.attributes (colons_lack sign.Star not_double_star d.colons (entities_lack sign.Star d.entities))

  pub attributes_lack_comma : Lacks sign.Comma d.vs
  attributes_lack_comma = colons_lack sign.Comma not_double_comma d.colons (entities_lack sign.Comma d.entities)

  pub colons_lack_double : Lacks sign.DoubleColon d.ws
  colons_lack_double = entities_lack sign.DoubleColon d.entities

  pub attributes_at : {us : List Token} → us ≡ d.us → ReadsAttributes us d.a d.vs
  attributes_at e = at (λ (xs : List Token). ReadsAttributes xs d.a d.vs) e d.attributes

  pub colons_at : {a : Attributes} {vs : List Token} → a ≡ d.a → vs ≡ d.vs → ReadsColons a.some vs d.ws
  colons_at {vs = vs} e f = at (λ (z : Attributes). ReadsColons z.some vs d.ws) e (at (λ (xs : List Token). ReadsColons d.a.some xs d.ws) f d.colons)

  pub entities_at : {a : Attributes} {ws : List Token} → a ≡ d.a → ws ≡ d.ws → Lists (ReadsEntity line truth a) ws d.ds []
  entities_at {ws = ws} e f = at (λ (z : Attributes). Lists (ReadsEntity line truth z) ws d.ds []) e (at (λ (xs : List Token). Lists (ReadsEntity line truth d.a) xs d.ds []) f d.entities)
