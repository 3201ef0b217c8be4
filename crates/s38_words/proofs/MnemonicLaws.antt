-- Each mnemonic is read as its operation, also among those that begin with its letter.
use Rattle.std.proofs.Common.{◌≡◌, ℕ, Bool, true, false, List, [], ◌∷◌, Option, Some, None, length, slice_index, ◌<◌, arith, refl, sym, ap, ◌∙◌, inl, inr}
use Rattle.std.proofs.lemmas.Bool.{cases_Bool}
use Rattle.std.proofs.lemmas.Slice.Eq.{bytes_eq-Decides}
use Rattle.s38_base.specs.declared.op.Op.{Op}
use Rattle.s38_base.specs.declared.op.Op.TheVariants.{Addn, Subn, Mult, Div, Rem, Neg, Cpynv, Scale, Cmpnvb, Cpybla, Cpybra, Cpyblap, Cat, Xlate, Cvthc, Cvtch, And, Or, Xor, Not, Cmpblab, B, Calli, Rtx, Sigexcp, Retexcpd, Modexcpd, Cmpptrt, Addspp, Subspp, Rslvsp, Setsppfp, Setspfp, Setdp, Cpybwp, Crtctx, Modadr, Rename, Matctx, Crtup, Modup, Grant, Retract, Xfro, Testau, Matau, Matauobj, Crtpg, Callx, Xctl, Lock, Unlock, Xfrlock, Matobjlk, Crts, Mods, Crtq, Enq, Deq, Crtinx, Insinxen, Fndinxen, Rmvinxen, Crtds, Crtcr, Setcr, Insdsen, Retdsen, Updsen, Deldsen, Crtjs, Crtjp, Jrnlobj, Retjent, Crtcb, Commit, Decommit, Ensobj, Desctx, Desup, Despg, Dess, Desq, Desinx, Desds, Descr, Desjs, Desjp, Descb}
use Rattle.s38_code.specs.Operations.{mnemonic}
use Rattle.s38_words.specs.Operation.{beginning_with, first_op, op_of, operations}
use Rattle.s38_words.specs.Text.{is_word}

pub each_is_read : (op : Op) → op_of (mnemonic op) ≡ Some op
unfolding mnemonic operations
each_is_read Addn = refl
each_is_read Subn = refl
each_is_read Mult = refl
each_is_read Div = refl
each_is_read Rem = refl
each_is_read Neg = refl
each_is_read Cpynv = refl
each_is_read Scale = refl
each_is_read Cmpnvb = refl
each_is_read Cpybla = refl
each_is_read Cpybra = refl
each_is_read Cpyblap = refl
each_is_read Cat = refl
each_is_read Xlate = refl
each_is_read Cvthc = refl
each_is_read Cvtch = refl
each_is_read And = refl
each_is_read Or = refl
each_is_read Xor = refl
each_is_read Not = refl
each_is_read Cmpblab = refl
each_is_read B = refl
each_is_read Calli = refl
each_is_read Rtx = refl
each_is_read Sigexcp = refl
each_is_read Retexcpd = refl
each_is_read Modexcpd = refl
each_is_read Cmpptrt = refl
each_is_read Addspp = refl
each_is_read Subspp = refl
each_is_read Rslvsp = refl
each_is_read Setsppfp = refl
each_is_read Setspfp = refl
each_is_read Setdp = refl
each_is_read Cpybwp = refl
each_is_read Crtctx = refl
each_is_read Modadr = refl
each_is_read Rename = refl
each_is_read Matctx = refl
each_is_read Crtup = refl
each_is_read Modup = refl
each_is_read Grant = refl
each_is_read Retract = refl
each_is_read Xfro = refl
each_is_read Testau = refl
each_is_read Matau = refl
each_is_read Matauobj = refl
each_is_read Crtpg = refl
each_is_read Callx = refl
each_is_read Xctl = refl
each_is_read Lock = refl
each_is_read Unlock = refl
each_is_read Xfrlock = refl
each_is_read Matobjlk = refl
each_is_read Crts = refl
each_is_read Mods = refl
each_is_read Crtq = refl
each_is_read Enq = refl
each_is_read Deq = refl
each_is_read Crtinx = refl
each_is_read Insinxen = refl
each_is_read Fndinxen = refl
each_is_read Rmvinxen = refl
each_is_read Crtds = refl
each_is_read Crtcr = refl
each_is_read Setcr = refl
each_is_read Insdsen = refl
each_is_read Retdsen = refl
each_is_read Updsen = refl
each_is_read Deldsen = refl
each_is_read Crtjs = refl
each_is_read Crtjp = refl
each_is_read Jrnlobj = refl
each_is_read Retjent = refl
each_is_read Crtcb = refl
each_is_read Commit = refl
each_is_read Decommit = refl
each_is_read Ensobj = refl
each_is_read Desctx = refl
each_is_read Desup = refl
each_is_read Despg = refl
each_is_read Dess = refl
each_is_read Desq = refl
each_is_read Desinx = refl
each_is_read Desds = refl
each_is_read Descr = refl
each_is_read Desjs = refl
each_is_read Desjp = refl
each_is_read Descb = refl

-- ---- among the operations that begin with a letter

each_begins : (op : Op) → first_op (beginning_with (slice_index (mnemonic op) 0)) (mnemonic op) ≡ Some op
unfolding mnemonic beginning_with
each_begins Addn = refl
each_begins Subn = refl
each_begins Mult = refl
each_begins Div = refl
each_begins Rem = refl
each_begins Neg = refl
each_begins Cpynv = refl
each_begins Scale = refl
each_begins Cmpnvb = refl
each_begins Cpybla = refl
each_begins Cpybra = refl
each_begins Cpyblap = refl
each_begins Cat = refl
each_begins Xlate = refl
each_begins Cvthc = refl
each_begins Cvtch = refl
each_begins And = refl
each_begins Or = refl
each_begins Xor = refl
each_begins Not = refl
each_begins Cmpblab = refl
each_begins B = refl
each_begins Calli = refl
each_begins Rtx = refl
each_begins Sigexcp = refl
each_begins Retexcpd = refl
each_begins Modexcpd = refl
each_begins Cmpptrt = refl
each_begins Addspp = refl
each_begins Subspp = refl
each_begins Rslvsp = refl
each_begins Setsppfp = refl
each_begins Setspfp = refl
each_begins Setdp = refl
each_begins Cpybwp = refl
each_begins Crtctx = refl
each_begins Modadr = refl
each_begins Rename = refl
each_begins Matctx = refl
each_begins Crtup = refl
each_begins Modup = refl
each_begins Grant = refl
each_begins Retract = refl
each_begins Xfro = refl
each_begins Testau = refl
each_begins Matau = refl
each_begins Matauobj = refl
each_begins Crtpg = refl
each_begins Callx = refl
each_begins Xctl = refl
each_begins Lock = refl
each_begins Unlock = refl
each_begins Xfrlock = refl
each_begins Matobjlk = refl
each_begins Crts = refl
each_begins Mods = refl
each_begins Crtq = refl
each_begins Enq = refl
each_begins Deq = refl
each_begins Crtinx = refl
each_begins Insinxen = refl
each_begins Fndinxen = refl
each_begins Rmvinxen = refl
each_begins Crtds = refl
each_begins Crtcr = refl
each_begins Setcr = refl
each_begins Insdsen = refl
each_begins Retdsen = refl
each_begins Updsen = refl
each_begins Deldsen = refl
each_begins Crtjs = refl
each_begins Crtjp = refl
each_begins Jrnlobj = refl
each_begins Retjent = refl
each_begins Crtcb = refl
each_begins Commit = refl
each_begins Decommit = refl
each_begins Ensobj = refl
each_begins Desctx = refl
each_begins Desup = refl
each_begins Despg = refl
each_begins Dess = refl
each_begins Desq = refl
each_begins Desinx = refl
each_begins Desds = refl
each_begins Descr = refl
each_begins Desjs = refl
each_begins Desjp = refl
each_begins Descb = refl

-- what is found among some operations has the word as its mnemonic
found_spells : (ops : List Op) (word : List ℕ) (op : Op) → first_op ops word ≡ Some op → word ≡ mnemonic op
found_spells [] word op h = absurd (let x : None ≡ Some op = h in cc)
found_spells (next ∷ ops) word op h = elim (cases_Bool (is_word (mnemonic next) word)) [
  | inl y ↦
      let same : Some next ≡ Some op = simp y at h in
      ((bytes_eq-Decides word (mnemonic next)).0 y) ∙ ap mnemonic (let e : next ≡ op = cc in e)
  | inr n ↦ found_spells ops word op (simp n at h)
]

missed : (word : List ℕ) (o : Option Op) → first_op (beginning_with (slice_index word 0)) word ≡ None → op_of word ≡ o → None ≡ op_of word
missed word None h e = sym e
missed word (Some op) h e =
    let spelled = found_spells operations word op e in
    absurd (let x : Some op ≡ None = sym (each_begins op) ∙ (ap (λ w. first_op (beginning_with (slice_index w 0)) w) (sym spelled) ∙ h) in cc)

found_by : (word : List ℕ) (o : Option Op) → first_op (beginning_with (slice_index word 0)) word ≡ o → o ≡ op_of word
found_by word None h = missed word (op_of word) h refl
found_by word (Some op) h =
    let spelled = found_spells (beginning_with (slice_index word 0)) word op h in
    sym (each_is_read op) ∙ ap op_of (sym spelled)

-- a search among those that begin with the letter of the word finds what the word is
pub found : (word : List ℕ) (ops : List Op) (o : Option Op) → ops ≡ beginning_with (slice_index word 0) → o ≡ first_op ops word → o ≡ op_of word
found word ops o same h = found_by word o (sym (h ∙ ap (λ xs. first_op xs word) same))

-- no mnemonic is empty
pub none_empty : (word : List ℕ) → length word < 1 → None ≡ op_of word
unfolding mnemonic operations
none_empty [] h = refl
none_empty (byte ∷ word) h = absurd (omega (arith, h))
