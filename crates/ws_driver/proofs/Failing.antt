-- Why a file was not read whole, from the calls that read.
use Rattle.std.proofs.Common.{◌≡◌, ◌≤◌, ◌<◌, ◌+◌, ◌⊎◌, refl, sym, ap, subst, ◌∙◌, ℕ, List, Option, None, Some, Result, Ok, Err, length, inl, inr, arith}
use Rattle.std.specs.Prelude.{IfSome, IfErr, min}
use Rattle.ws_io.specs.Causes.{Rose}
use Rattle.ws_io.specs.declared.whole.ReadEnd.{ReadEnd}
use Rattle.ws_io.specs.declared.whole.ReadEnd.TheVariants as read
use Rattle.ws_driver.specs.Causes.{SomeTooLong, SomeRose, IsUnread}

-- the first file that is read
unread : (told : List ℕ → Option (List ℕ)) (before now : List ℕ → ℕ) (reads : List ℕ → ℕ → Type 0) (name : List ℕ) (limit : ℕ) (end : ReadEnd) → reads name limit →
    (end ≡ read.TooLong → IfSome (told name) (λ file. limit < length file)) → (end ≡ read.Failed → Rose (before name) (now name)) → IsUnread told before now reads end
unread told before now reads name limit read.Failed is long rose = (name, limit, is, rose refl)
unread told before now reads name limit read.TooLong is long rose = (name, limit, is, long refl)
unread told before now reads name limit read.Memory is long rose = tt

pub unread_result : {T : Type 0} (told : List ℕ → Option (List ℕ)) (before now : List ℕ → ℕ) (reads : List ℕ → ℕ → Type 0) (name : List ℕ) (limit : ℕ) (result : Result T ReadEnd) → reads name limit →
    (result ≡ Err read.TooLong → IfSome (told name) (λ file. limit < length file)) → (result ≡ Err read.Failed → Rose (before name) (now name)) → IfErr result (IsUnread told before now reads)
unread_result told before now reads name limit (Ok x) is long rose = tt
unread_result told before now reads name limit (Err end) is long rose = unread told before now reads name limit end is (λ e. long (ap Err e)) (λ e. rose (ap Err e))

rose_by : (m a b c : ℕ) → a ≤ b → min (b + 1) m ≤ c → min (a + 1) m ≤ c
rose_by m a b c low rose = omega (arith, low, rose)

-- a later call, where nothing told changed and no count fell
later_end : (told after : List ℕ → Option (List ℕ)) (before between now : List ℕ → ℕ) (reads all : List ℕ → ℕ → Type 0) (end : ReadEnd) →
    ((other : List ℕ) → after other ≡ told other) → ((other : List ℕ) → before other ≤ between other) → ((name : List ℕ) (limit : ℕ) → reads name limit → all name limit) →
    IsUnread after between now reads end → IsUnread told before now all end
later_end told after before between now reads all read.Failed kept later more h = (h.0, h.1, more h.0 h.1 h.2, rose_by _ (before h.0) (between h.0) (now h.0) (later h.0) h.3)
later_end told after before between now reads all read.TooLong kept later more h = (h.0, h.1, more h.0 h.1 h.2, subst (λ o. IfSome o (λ file. h.1 < length file)) (kept h.0) h.3)
later_end told after before between now reads all read.Memory kept later more h = tt

pub unread_later : {T : Type 0} (told after : List ℕ → Option (List ℕ)) (before between now : List ℕ → ℕ) (reads all : List ℕ → ℕ → Type 0) (result : Result T ReadEnd) →
    ((other : List ℕ) → after other ≡ told other) → ((other : List ℕ) → before other ≤ between other) → ((name : List ℕ) (limit : ℕ) → reads name limit → all name limit) →
    IfErr result (IsUnread after between now reads) → IfErr result (IsUnread told before now all)
unread_later told after before between now reads all (Ok x) kept later more h = tt
unread_later told after before between now reads all (Err end) kept later more h = later_end told after before between now reads all end kept later more h
