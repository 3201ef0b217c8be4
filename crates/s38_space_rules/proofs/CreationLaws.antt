-- What a new object forces, and a data space that is journaled.
use Rattle.std.proofs.Common.{◌≡◌, ℕ, ◌+◌, ◌<◌, ◌==◌, Bool, true, false, cond, [], refl, sym, ◌∙◌, ap, subst, arith}
use Rattle.std.proofs.lemmas.Bool.Decides.{nat_tests}
use Rattle.std.specs.Prelude.{◌&&◌, All, Option, Some, None, is_some, nat_lt}
use Rattle.std.specs.Option.{option_map}
use Rattle.s38_base.specs.declared.id.Id.{Id}
use Rattle.s38_base.specs.declared.id.Kind.{Kind}
use Rattle.s38_code.specs.declared.program.Program.{Program}
use Rattle.s38_journals.specs.Journals.{JournalList}
use Rattle.s38_rules.specs.declared.creating.Creating.{Creating}
use Rattle.s38_rules.specs.declared.data_body.DataBody.{DataBody}
use Rattle.s38_rules.specs.declared.object.Body.{Body}
use Rattle.s38_rules.specs.declared.object.Body.TheVariants as bodies
use Rattle.s38_rules.specs.declared.port.Port.{Port}
use Rattle.s38_rules.specs.declared.object.Object.{Object}
use Rattle.s38_rules.proofs.ChargeLaws.{object_above, object_last}
use Rattle.s38_rules.specs.ask.Authority.{is_profile}
use Rattle.s38_rules.proofs.PartLaws.{part_apart, part_kept}
use Rattle.s38_rules.specs.families.Changes.{made_by, through_port}
use Rattle.s38_rules.specs.families.Creation.{created, creation_changes, new_object, of_kind}
use Rattle.s38_rules.specs.store.Forcing.{creation_forces}
use Rattle.s38_rules.specs.state.Held.{Held, ceiling_for, object, with_object}
use Rattle.s38_rules.specs.state.Journaling.{data_port_in, is_journal, journal_for, journal_named, journal_of_port}
use Rattle.s38_rules.specs.state.Parts.{data_part, journal_of, journal_part, over_body, part_at, port_of, port_part}
use Rattle.s38_rules.specs.state.PartsAt.{on_data}
use Rattle.s38_rules.specs.state.LawfulParts.{data_lawful}
use Rattle.s38_objects.specs.Lawful.{number_of}
use Rattle.s38_space_rules.proofs.LoggingLaws.{part_changed}
use Rattle.s38_space_rules.specs.Creating.{is_user_in, made_forces}

itself : (n : ℕ) → (n == n) ≡ true
itself n = grind (arith, nat_tests)

not_less : (n : ℕ) → nat_lt n n ≡ false
not_less n = grind (arith, nat_tests)

-- the next number is that of none
pub next_free : (h : Held) → All (λ o. number_of o < h.next) h.objects → object h h.next ≡ None
next_free h given = object_above h.next h.next h.objects given (omega arith)

-- nothing new forces nothing
nothing_new : (h : Held) → object h h.next ≡ None → creation_forces h h ≡ []
nothing_new h free = rw (not_less h.ceiling, free) refl

raised : (ceiling next : ℕ) → nat_lt ceiling (ceiling_for ceiling next) ≡ nat_lt ceiling next
raised ceiling next = by (nat_lt ceiling next) refl
  where
    by : (b : Bool) → nat_lt ceiling next ≡ b → nat_lt ceiling (cond b (ceiling + 64) ceiling) ≡ b
    by true is = grind (arith, nat_tests)
    by false is = not_less ceiling

-- the new object is found
pub new_found : (h : Held) (x : Object) → object h h.next ≡ None → x.number.0 ≡ h.next → object (with_object h x) h.next ≡ Some x
new_found h x free number =
    let own : object h x.number.0 ≡ None = subst (λ (n : ℕ). object h n ≡ None) (sym number) free in
    let is : (x.number.0 == h.next) ≡ true = subst (λ (n : ℕ). (x.number.0 == n) ≡ true) number (itself x.number.0) in
    object_last h.next x h.objects own ∙ rw is refl

one_new : (h : Held) (x : Object) → object h h.next ≡ None → x.number.0 ≡ h.next → creation_forces h (with_object h x) ≡ made_forces h true x.on_disk
one_new h x free number = rw (new_found h x free number, raised h.ceiling h.next) refl

pub made_forced : (h : Held) (owner : ℕ) (made : Creating) (body : Option Body) → object h h.next ≡ None
    → creation_forces h (made_by h owner made body) ≡ made_forces h (is_some made.id && is_some body) (is_user_in body)
unfolding creation_changes
made_forced h owner made None free = by made.id
  where
    by : (id : Option Id) → creation_forces h h ≡ made_forces h (is_some id && false) false
    by None = nothing_new h free
    by (Some id) = nothing_new h free
made_forced h owner made (Some body) free = by made.id
  where
    by : (id : Option Id) → creation_forces h (created h owner made body id) ≡ made_forces h (is_some id && true) (is_profile body)
    by None = nothing_new h free
    by (Some id) = one_new h (new_object h owner made id body) free refl

-- ---- whether there is a new object

pub and_true : (b : Bool) → (b && true) ≡ b
and_true true = refl
and_true false = refl

pub some_kind : (kind : Kind) (id : Option Id) → is_some (of_kind kind id) ≡ is_some id
some_kind kind None = refl
some_kind kind (Some id) = refl

pub program_there : (x : Option Program) → is_some (option_map bodies.Program x) ≡ is_some x
program_there None = refl
program_there (Some program) = refl

-- a program is no user
pub program_user : (x : Option Program) → is_user_in (option_map bodies.Program x) ≡ false
program_user None = refl
program_user (Some program) = refl

-- ---- a data space whose changes go through a port from now on

named_same : (h k : Held) (x : Option Port) → ((n : ℕ) → is_journal k n ≡ is_journal h n) → journal_named k x ≡ journal_named h x
named_same h k None same = refl
named_same h k (Some port) same = rw (same port.journal.0) refl

no_port_there : (f : DataBody → DataBody) (b : Body) → port_of (over_body data_part f b) ≡ port_of b
no_port_there f (bodies.DataSpace d) = refl
no_port_there f _ = refl

no_journal_there : (f : DataBody → DataBody) (b : Body) → journal_of (over_body data_part f b) ≡ journal_of b
no_journal_there f (bodies.DataSpace d) = refl
no_journal_there f _ = refl

behind_same : (h : Held) (n port : ℕ) (f : DataBody → DataBody) → journal_of_port (on_data h n f) port ≡ journal_of_port h port
behind_same h n port f =
    ap (journal_named (on_data h n f)) (part_apart port_part data_part f (no_port_there f) h n port)
    ∙ named_same h (on_data h n f) (part_at port_part h port) (λ m. ap (λ (x : Option JournalList). is_some x) (part_apart journal_part data_part f (no_journal_there f) h n m))

-- its journal space is that of the port
pub journaled_through : (h : Held) (n port : ℕ) → is_some (part_at data_part h n) ≡ true → journal_for (on_data h n (through_port port)) n ≡ journal_of_port h port
journaled_through h n port there = by (part_at data_part h n) refl there
  where
    by : (x : Option DataBody) → part_at data_part h n ≡ x → is_some x ≡ true → journal_for (on_data h n (through_port port)) n ≡ journal_of_port h port
    by None e is = cc
    by (Some d) e is =
        ap (λ (y : Option DataBody). journal_of_port (on_data h n (through_port port)) (data_port_in y)) (part_changed data_part data_lawful h n (through_port port) d e)
        ∙ behind_same h n port (through_port port)

pub unjournaled : (h : Held) (n port : ℕ) → is_some (part_at data_part h n) ≡ false → journal_for (on_data h n (through_port port)) n ≡ journal_for h n
unjournaled h n port none = ap (λ (k : Held). journal_for k n) (part_kept data_part h n (through_port port) (nothing (part_at data_part h n) none))
  where
    nothing : (x : Option DataBody) → is_some x ≡ false → x ≡ None
    nothing None is = refl
    nothing (Some d) is = cc
