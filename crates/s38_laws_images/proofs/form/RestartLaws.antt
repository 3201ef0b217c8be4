-- With which objects a run may begin whose programs and profiles have their form.
use Rattle.std.proofs.Common.{List, [], map, refl, subst, sym, zero, suc, ℕ, ◌∷◌, ◌≡◌, ◌≤◌}
use Rattle.std.proofs.lemmas.List.Elements.{All-from_recursion}
use Rattle.std.specs.List.{AllByRecursion}
use Rattle.std.specs.Prelude.{None, nat_le, true, ◌&&◌}
use Rattle.s38_base.specs.Limits.{longest_message}
use Rattle.s38_base.specs.declared.id.Kind.{Kind}
use Rattle.s38_base.specs.declared.page.Change.{Change}
use Rattle.s38_base.specs.declared.rights.Special.{Special}
use Rattle.s38_code.specs.declared.program.Program.{Program}
use Rattle.s38_codec.proofs.CodecLaws.{both_true}
use Rattle.s38_codec.specs.Codec.{byte}
use Rattle.s38_codec.specs.Formats.{FitsCase, list_of, u32}
use Rattle.s38_laws_images.proofs.form.WordLaws.{Hold}
use Rattle.s38_restart.specs.catalog.Stores.{ceiling_of, first_fault, objects_stored_in}
use Rattle.s38_image.specs.Bodies.{body_tags, is_special_byte, profile_form, program_part, special, unsequenced}
use Rattle.s38_image.specs.Fitting.{FitsBody}
use Rattle.s38_image.specs.Images.{image_of}
use Rattle.s38_image.specs.Programs.{IsCreated}
use Rattle.s38_image.specs.Queues.{is_queue, message_form, queue, queue_head}
use Rattle.s38_image.specs.declared.stored.Stored.{Stored}
use Rattle.s38_image_writer.proofs.KindLaws.{read_printable}
use Rattle.s38_queues.specs.MessageQueue.{MessageQueue}
use Rattle.s38_laws_images.specs.readable.Forms.{HasForm, HoldsForm, has_keys}
use Rattle.s38_restart.proofs.StoredLaws.{IsKept, stored_kept}
use Rattle.s38_restart.specs.Parts.{AreParts}
use Rattle.s38_restart.specs.Restarted.{data_followed, data_space_followed, imaged, restarted}
use Rattle.s38_rules.specs.state.Held.{Held, kind_of}
use Rattle.s38_rules.specs.state.Opening.{held_first, held_installed, installed, opening}
use Rattle.s38_rules.specs.state.Parts.{data_part, over_body, profile_part, queue_part}
use Rattle.s38_rules.specs.declared.object.Body.TheVariants as bodies
use Rattle.s38_rules.specs.declared.object.Body.{Body}

-- ---- machines that were not stored before

pub first_hold : Hold held_first
unfolding opening
first_hold = All-from_recursion HoldsForm opening (tt, (refl, (tt, (refl, (refl, tt)))))

pub installed_hold : Hold held_installed
unfolding installed
installed_hold = All-from_recursion HoldsForm installed (tt, (refl, tt))

-- ---- bodies that were read

abbrev FitsAs : Body → List ℕ → ℕ → Kind → Type 0
FitsAs b tags sequence k = FitsBody k tags (record { body = b; sequence = sequence })

program_read : (p : Program) (sequence : ℕ) → FitsCase IsCreated (unsequenced program_part sequence (bodies.Program p)) → IsCreated p
program_read p zero fits = fits
program_read p (suc n) fits = absurd fits

profile_read : (s : Special) (pages sequence : ℕ) → FitsCase (λ x. profile_form.fits x ≡ true) (unsequenced profile_part sequence (bodies.Profile s pages)) → is_special_byte s.0 ≡ true
profile_read s pages zero fits = (both_true (is_special_byte s.0) (byte.fits s.0) (both_true (special.fits s) (u32.fits pages) fits).0).0
profile_read s pages (suc n) fits = absurd fits

queue_read : (q : MessageQueue) (sequence : ℕ) → FitsCase (λ x. queue.fits x ≡ true) (unsequenced queue_part sequence (bodies.Queue q)) → has_keys q.order q.key_len ≡ true
queue_read q zero fits =
    let head = both_true (queue_head.fits (q.order, (q.key_len, q.longest))) ((list_of (message_form q.key_len q.longest)).fits q.messages) fits in
    let is = both_true (is_queue q.order q.key_len q.longest) _ head.0 in
    (both_true (nat_le 1 q.longest && nat_le q.longest longest_message) _ is.0).1
queue_read q (suc n) fits = absurd fits

read_form : (k : Kind) (tags : List ℕ) (b : Body) (sequence : ℕ) → kind_of b ≡ k → FitsBody k tags (record { body = b; sequence = sequence }) → HasForm b
read_form k tags (bodies.Program p) sequence kind fits = program_read p sequence (subst (FitsAs (bodies.Program p) tags sequence) (sym kind) fits)
read_form k tags (bodies.Profile s pages) sequence kind fits = profile_read s pages sequence (subst (FitsAs (bodies.Profile s pages) tags sequence) (sym kind) fits)
read_form k tags (bodies.Queue q) sequence kind fits = queue_read q sequence (subst (FitsAs (bodies.Queue q) tags sequence) (sym kind) fits)
read_form k tags _ sequence kind fits = tt

-- ---- a store

followed_form : (h : Held) (number image : ℕ) (b : Body) → HasForm b → HasForm (over_body data_part (data_followed h number image) b)
followed_form h number image (bodies.DataSpace d) has = tt
followed_form h number image _ has = has

opened_form : (h : Held) (limit ceiling : ℕ) (s : Stored) → limit ≤ 16777216 → IsKept limit ceiling s → HoldsForm (data_space_followed h s)
opened_form h limit ceiling s small is =
    let storable = read_printable limit s small is.image in
    followed_form h s.object.number.0 s.sequence s.object.body (read_form s.object.id.kind (body_tags s.object.id.kind (image_of s)) s.object.body s.sequence storable.kind is.image.body)

all_opened : (h : Held) (limit ceiling : ℕ) (ss : List Stored) → limit ≤ 16777216 → AllByRecursion (IsKept limit ceiling) ss → AllByRecursion HoldsForm (map (data_space_followed h) ss)
all_opened h limit ceiling [] small all = tt
all_opened h limit ceiling (s ∷ ss) small all = (opened_form h limit ceiling s small all.0, all_opened h limit ceiling ss small all.1)

pub restarted_hold : (limit : ℕ) (parts : List Change) → limit ≤ 16777216 → AreParts parts → first_fault limit parts ≡ None → Hold (restarted limit parts)
restarted_hold limit parts small are fault =
    let ss = objects_stored_in limit parts in
    All-from_recursion HoldsForm (map (data_space_followed (imaged ss)) ss) (all_opened (imaged ss) limit (ceiling_of parts) ss small (stored_kept limit parts are fault))
