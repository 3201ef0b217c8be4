-- How objects are made and destroyed, whatever their kind: the identification is new in its context, the owner may
-- pay for the object, and a number is left.
use Rattle.std.specs.Prelude.{ℕ, ◌+◌, Bool, false, not, ◌||◌, List, [], length, Option, Some, None, is_some, nat_le, nat_lt, if◌then◌else◌}
use Rattle.s38_base.specs.declared.exception.Exception.{Exception}
use Rattle.s38_base.specs.declared.id.Id.{Id}
use Rattle.s38_base.specs.declared.id.Kind.{Kind}
use Rattle.s38_base.specs.declared.id.Kind.TheVariants as kinds
use Rattle.s38_base.specs.declared.pointer.Pointer.{Pointer}
use Rattle.s38_base.specs.declared.pointer.Pointer.TheVariants as pointers
use Rattle.s38_base.specs.declared.words.Category.TheVariants.{Change, Control}
use Rattle.s38_base.specs.Exceptions as exceptions
use Rattle.s38_base.specs.Ids.{same_kind}
use Rattle.s38_base.specs.Limits.{last_number, machine_context, most_objects}
use Rattle.s38_base.specs.RightNames as rights
use Rattle.s38_base.specs.Signals.{fails, first}
use Rattle.s38_code.specs.declared.operand.Operand.{Operand}
use Rattle.s38_code.specs.declared.reply.Val.{Val}
use Rattle.s38_code.specs.declared.reply.Val.TheVariants as vals
use Rattle.s38_rules.specs.declared.creating.Creating.{Creating}
use Rattle.s38_rules.specs.declared.need.Need.{Need}
use Rattle.s38_rules.specs.declared.need.Sought.TheVariants.{Of, Container}
use Rattle.s38_rules.specs.declared.object.Body.{Body}
use Rattle.s38_rules.specs.declared.object.Object.{Object}
use Rattle.s38_rules.specs.declared.rows.PrivateRow.{PrivateRow}
use Rattle.s38_rules.specs.ask.Authority.{is_profile}
use Rattle.s38_rules.specs.state.Headers.{limit_of}
use Rattle.s38_rules.specs.state.Held.{Held, charge_in, found, has_number, home, kind_of, object, with_object, without}
use Rattle.s38_rules.specs.ask.Needs.{on_implied, on_object}
use Rattle.s38_rules.specs.state.PrivateRows.{row_for}
use Rattle.s38_rules.specs.ask.Operands.{id_at, is_given, rights_at, target}

-- ---- what is made

-- the identification of an object of this kind, whatever kind it says
abbrev pub of_kind : Kind → Option Id → Option Id
of_kind kind None = None
of_kind kind (Some id) = Some (record id { kind = kind })

-- an object in the context of operand 2, with the identification of operand 3 and the public rights of operand 4
abbrev pub in_context : Kind → ℕ → Held → List Operand → Creating
in_context kind pages h ops =
    record {
      context = home h (target h ops 2);
      id = of_kind kind (id_at ops 3);
      place = 3;
      public = record { 0 = rights_at ops 4 };
      pages = pages;
    }

-- an object of the machine context, with the identification of operand 2
abbrev pub of_machine : Kind → ℕ → Held → List Operand → Creating
of_machine kind public h ops =
    record {
      context = home h machine_context;
      id = of_kind kind (id_at ops 2);
      place = 2;
      public = record { 0 = public };
      pages = 1;
    }

-- INSERT on the machine context
unfoldable pub machine_needs : List Need
machine_needs = on_implied machine_context (Of kinds.Context) rights.insert (Some Change)

-- INSERT on the context that the new object is put into, where one is given
unfoldable pub creation_needs : List Operand → List Need
creation_needs ops = if is_given ops 2 then on_object 2 Container rights.insert (Some Change) else []

-- ---- when it fails

-- the identification leads to another object than that of the number
abbrev pub is_another : ℕ → Option Object → Bool
is_another n None = false
is_another n (Some o) = not (has_number n o)

-- another object of the context than that of the number has the identification
abbrev pub is_taken_beside : Held → ℕ → ℕ → Id → Bool
is_taken_beside h n context id = is_another n (found h context id)

abbrev pub is_taken : Held → ℕ → Option Id → Bool
is_taken h context None = false
is_taken h context (Some id) = is_some (found h context id)

abbrev pub name_rule : Held → Creating → Option Exception
name_rule h made = fails (is_taken h made.context.0 made.id) exceptions.duplicate_identification made.place

abbrev pub limit_in : Option Object → ℕ
limit_in None = 0
limit_in (Some o) = limit_of o.body

-- a user would own more pages than its profile allows
abbrev pub pages_rule : Held → ℕ → ℕ → ℕ → Option Exception
pages_rule h user pages operand = fails (nat_lt (limit_in (object h user)) pages) exceptions.pages_exceeded operand

abbrev pub number_rule : Held → Option Exception
number_rule h = fails (nat_le most_objects (length h.objects) || nat_lt last_number h.next) exceptions.limit_exceeded 0

-- the owner pays for it, and a number is left
unfoldable pub creation_limits : Held → ℕ → ℕ → Option Exception
creation_limits h owner pages = first (pages_rule h owner (charge_in h.objects owner + pages) 0) (number_rule h)

-- the identification is new, then the row's own conditions hold, then the limits
unfoldable pub creation_fails : Held → ℕ → Creating → Option Exception → Option Exception
creation_fails h owner made own = first (name_rule h made) (first own (creation_limits h owner made.pages))

-- ---- what is given and changed

abbrev pub new_pointer : Held → Option Id → Option Pointer
new_pointer h None = None
new_pointer h (Some id) = Some (pointers.System (record { 0 = h.next }) (record { 0 = rights.no_rights }))

-- a system pointer to the new object, without rights
unfoldable pub creation_gives : Held → Creating → Val
creation_gives h made = vals.Ptr (new_pointer h made.id)

-- all eight rights of the user who made an object
abbrev pub maker_rows : ℕ → List PrivateRow
maker_rows owner = row_for (record { 0 = owner }) (record { 0 = rights.all_rights })

-- a profile is on disk from its creation on
abbrev pub new_object : Held → ℕ → Creating → Id → Body → Object
new_object h owner made id body =
    record {
      number = record { 0 = h.next };
      id = id;
      context = made.context;
      owner = record { 0 = owner };
      public = made.public;
      rows = maker_rows owner;
      on_disk = is_profile body;
      body = body;
    }

abbrev pub created : Held → ℕ → Creating → Body → Option Id → Held
created h owner made body None = h
created h owner made body (Some id) = with_object h (new_object h owner made id body)

-- the owner has the new object
unfoldable pub creation_changes : Held → ℕ → Creating → Body → Held
creation_changes h owner made body = created h owner made body made.id

-- ---- destruction

-- object control on the object that is destroyed
unfoldable pub destruction_needs : Kind → List Need
destruction_needs kind = on_object 1 (Of kind) rights.objctl (Some Control)

abbrev pub is_of_kind : Kind → Option Object → Bool
is_of_kind kind None = false
is_of_kind kind (Some o) = same_kind kind (kind_of o.body)

-- the object of a number, where it is of the kind, is there no more
abbrev pub destroyed : Held → Kind → ℕ → Held
destroyed h kind n = if is_of_kind kind (object h n) then without h n else h
