-- MATCTX: the objects of a context, listed by kind, subtype and name.
use Rattle.std.specs.Prelude.{ℕ, List, [], ◌∷◌, ◌++◌, length, map, Some, if◌then◌else◌}
use Rattle.std.specs.List.{flat_map}
use Rattle.std.specs.Option.{unwrap_or}
use Rattle.std.specs.BTreeMap.{insert_entry}
use Rattle.std.specs.declared.cmp.Ordering.{Ordering}
use Rattle.s38_base.specs.declared.id.ObjNum.{ObjNum}
use Rattle.s38_base.specs.Ids.{kind_code}
use Rattle.s38_base.specs.Limits.{machine_context}
use Rattle.s38_strings.specs.Ebcdic.{ebcdic_of}
use Rattle.s38_code.specs.declared.operand.Operand.{Operand}
use Rattle.s38_code.specs.declared.reply.Val.{Val}
use Rattle.s38_code.specs.declared.reply.Val.TheVariants as vals
use Rattle.s38_rules.specs.declared.listed.Listed.{Listed}
use Rattle.s38_rules.specs.contracts.listed.ListedOrd.TheImpl as listed_ord
use Rattle.s38_rules.specs.declared.need.Named.TheVariants.{Written, Implied}
use Rattle.s38_rules.specs.declared.need.Need.{Need}
use Rattle.s38_rules.specs.declared.object.Object.{Object}
use Rattle.s38_rules.specs.state.Held.{Held, contents}
use Rattle.s38_rules.specs.families.Instruction.{Instruction, inert}
use Rattle.s38_rules.specs.ask.Operands.{is_machine, room_at}
use Rattle.s38_rules.specs.ask.Receivers.{blank, count_image, fitted}
use Rattle.s38_rules.specs.families.Resolving.{context_at, context_read}

-- RETRIEVE on the context
unfoldable pub matctx_needs : List Operand → List Need
matctx_needs ops = if is_machine ops 2 then context_read (Implied (record { 0 = machine_context })) else context_read Written

-- the key of an object in a list of names
abbrev pub listed : Object → Listed
listed o = record { kind = kind_code o.id.kind; sub = o.id.sub; name = o.id.name }

-- the order of such a list: kind, subtype, name
abbrev pub listed_cmp : Listed → Listed → Ordering
listed_cmp = (listed_ord.ghosts).cmp

-- a list of names, with the objects entered one after another, each at its place
abbrev pub with_listed : List (Listed × ObjNum) → List Object → List (Listed × ObjNum)
with_listed names [] = names
with_listed names (o ∷ os) = with_listed (insert_entry listed_cmp names (listed o) o.number) os

-- a character of a name
abbrev pub character : ℕ → ℕ
character c = unwrap_or (ebcdic_of c) blank

-- kind, subtype, and the name filled with blanks
abbrev pub name_image : Listed → List ℕ
name_image x = x.kind ∷ x.sub ∷ fitted 30 blank (map character x.name)

abbrev pub names_image : List (Listed × ObjNum) → List ℕ
names_image names = count_image (length names) ++ flat_map (λ (x : Listed × ObjNum). name_image x.0) names

-- the number of the objects in the context, and their identifications in order
unfoldable pub matctx_bytes : Held → List Operand → List ℕ
matctx_bytes h ops = fitted (room_at ops 1) 0 (names_image (with_listed [] (contents h (context_at h ops))))

abbrev pub matctx_gives : Held → List Operand → Val
matctx_gives h ops = vals.Bytes (matctx_bytes h ops)

abbrev pub matctx : Instruction
matctx = record inert {
  needs = λ s p d r. matctx_needs r.operands;
  gives = λ s p d r. Some (matctx_gives s.held r.operands);
}
