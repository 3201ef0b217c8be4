-- Objects that are told apart by nothing on which rights rest, and rights that are then the same.
use Rattle.std.proofs.Common.{◌≡◌, ℕ, ◌==◌, Bool, true, false, cond, List, [], ◌∷◌, length, refl, ap, ◌∙◌}
use Rattle.std.proofs.lemmas.List.Elements.{All-head, All-tail}
use Rattle.std.specs.Prelude.{All, Option, Some, None, bit_or, is_some}
use Rattle.s38_base.specs.declared.id.ObjNum.{ObjNum}
use Rattle.s38_base.specs.RightNames as rights
use Rattle.s38_rules.specs.declared.object.Object.{Object}
use Rattle.s38_rules.specs.declared.rows.PrivateRow.{PrivateRow}
use Rattle.s38_rules.specs.declared.table.Header.{Header}
use Rattle.s38_rules.specs.ask.Authority.{available, is_profile, rights_that_count, source_by, sources_by, sources_on}
use Rattle.s38_rules.specs.state.Headers.{header_in, header_of, public_in, rights_in_row, special_in}
use Rattle.s38_rules.specs.state.Held.{Held, object, owner_in}
use Rattle.s38_rules.specs.state.PrivateRows.{row_of}
use Rattle.s38_rules.specs.ask.Users.{adopted, adoption_of, frame_header}

-- what is said of an object, its rows, and whether it is a user
pub record Bears (x y : Object) : Type 0 where
  pub header : header_of y ≡ header_of x
  pub rows : y.rows ≡ x.rows
  pub user : is_profile y.body ≡ is_profile x.body

abbrev pub IsSame : Option Object → Option Object → Type 0
IsSame None None = Unit {0}
IsSame (Some x) (Some y) = Bears x y
IsSame _ _ = ⊥

pub same_bears : (x : Option Object) → IsSame x x
same_bears None = tt
same_bears (Some x) = record { header = refl; rows = refl; user = refl }

pub bears_then : (x y z : Option Object) → IsSame x y → IsSame y z → IsSame x z
bears_then None None None a b = tt
bears_then None None (Some z) a b = absurd b
bears_then None (Some y) z a b = absurd a
bears_then (Some x) None z a b = absurd a
bears_then (Some x) (Some y) None a b = absurd b
bears_then (Some x) (Some y) (Some z) a b = record { header = b.header ∙ a.header; rows = b.rows ∙ a.rows; user = b.user ∙ a.user }

-- ---- what is read of them

public_same : (x y : Option Object) → IsSame x y → public_in y ≡ public_in x
public_same None None s = refl
public_same None (Some y) s = absurd s
public_same (Some x) None s = absurd s
public_same (Some x) (Some y) s = ap (λ (g : Header). g.public.0) s.header

row_same : (x y : Option Object) (user : ℕ) → IsSame x y → rights_in_row y user ≡ rights_in_row x user
row_same None None user s = refl
row_same None (Some y) user s = absurd s
row_same (Some x) None user s = absurd s
row_same (Some x) (Some y) user s = ap (λ (rows : List PrivateRow). row_of rows user) s.rows

-- a user brings the same: it has the same special authorities, and its rows count as before
pub record IsSameUser (x y : Option Object) : Type 0 where
  pub special : special_in y ≡ special_in x
  pub counted : (r : ℕ) → rights_that_count y r ≡ rights_that_count x r

pub same_user : (x y : Option Object) → IsSame x y → IsSameUser x y
same_user None None s = record { special = refl; counted = λ r. refl }
same_user None (Some y) s = absurd s
same_user (Some x) None s = absurd s
same_user (Some x) (Some y) s = record {
  special = ap (λ (g : Header). g.special.0) s.header;
  counted = λ r. ap (λ (b : Bool). cond b r rights.no_rights) s.user;
}

pub header_same : (x y : Option Object) → IsSame x y → header_in y ≡ header_in x
header_same None None s = refl
header_same None (Some y) s = absurd s
header_same (Some x) None s = absurd s
header_same (Some x) (Some y) s = ap Some s.header

pub there_same : (x y : Option Object) → IsSame x y → is_some y ≡ is_some x
there_same None None s = refl
there_same None (Some y) s = absurd s
there_same (Some x) None s = absurd s
there_same (Some x) (Some y) s = refl

pub owner_same : (x y : Option Object) → IsSame x y → owner_in y ≡ owner_in x
owner_same None None s = refl
owner_same None (Some y) s = absurd s
owner_same (Some x) None s = absurd s
owner_same (Some x) (Some y) s = ap (λ (g : Header). g.owner.0) s.header

-- ---- rights

source_same : (h k : Held) (n user : ℕ) → IsSame (object h n) (object k n) → IsSameUser (object h user) (object k user) → source_by k n user ≡ source_by h n user
unfolding source_by
source_same h k n user s u =
    rw (
      u.special,
      public_same (object h n) (object k n) s,
      row_same (object h n) (object k n) user s,
      u.counted (rights_in_row (object h n) user),
    ) refl

sources_same : (h k : Held) (n : ℕ) (users : List ℕ) → IsSame (object h n) (object k n) → All (λ user. IsSameUser (object h user) (object k user)) users
    → sources_by k n users ≡ sources_by h n users
sources_same h k n [] s each = refl
sources_same h k n (user ∷ users) s each =
    rw (source_same h k n user s (All-head (λ u. IsSameUser (object h u) (object k u)) user users each), sources_same h k n users s (All-tail (λ u. IsSameUser (object h u) (object k u)) user users each)) refl

sources_on_same : (h k : Held) (n : ℕ) (users : List ℕ) (x y : Option Object) → IsSame x y → sources_by k n users ≡ sources_by h n users
    → sources_on k n users y ≡ sources_on h n users x
sources_on_same h k n users None None s e = refl
sources_on_same h k n users None (Some y) s e = absurd s
sources_on_same h k n users (Some x) None s e = absurd s
sources_on_same h k n users (Some x) (Some y) s e = e

-- the rights of the same users on the same object are the same
pub available_same : (h k : Held) (users : List ℕ) (n carried : ℕ) → IsSame (object h n) (object k n) → All (λ user. IsSameUser (object h user) (object k user)) users
    → available k users n carried ≡ available h users n carried
unfolding available
available_same h k users n carried s each =
    ap (bit_or carried) (sources_on_same h k n users (object h n) (object k n) s (sources_same h k n users s each))

-- ---- who acts

-- a program brings the same owner, or nobody
abbrev pub AdoptsSo : Option Object → Option Object → Type 0
AdoptsSo x y = (last : Bool) → adoption_of last (header_in y) ≡ adoption_of last (header_in x)

pub adopts_same : (x y : Option Object) → IsSame x y → AdoptsSo x y
adopts_same x y s last = ap (adoption_of last) (header_same x y s)

frame_same : (h k : Held) (frame : ObjNum) (last : Bool) → AdoptsSo (object h frame.0) (object k frame.0) → adoption_of last (frame_header k frame) ≡ adoption_of last (frame_header h frame)
frame_same h k frame last so =
    elim (frame.0 == 0) as (λ b. adoption_of last (cond b None (header_in (object k frame.0))) ≡ adoption_of last (cond b None (header_in (object h frame.0)))) [
      | true ↦ refl
      | false ↦ so last
    ]

pub adopted_same : (h k : Held) (frames : List ObjNum) → All (λ (f : ObjNum). AdoptsSo (object h f.0) (object k f.0)) frames → adopted k frames ≡ adopted h frames
adopted_same h k [] each = refl
adopted_same h k (frame ∷ more) each =
    rw (
      frame_same h k frame (length more == 0) (All-head (λ (f : ObjNum). AdoptsSo (object h f.0) (object k f.0)) frame more each),
      adopted_same h k more (All-tail (λ (f : ObjNum). AdoptsSo (object h f.0) (object k f.0)) frame more each),
    ) refl
