-- The operation that a word is the mnemonic of.
use Rattle.std.specs.Prelude.{ℕ, ◌==◌, List, [], ◌∷◌, Option, Some, None, if◌then◌else◌}
use Rattle.s38_base.specs.declared.op.Op.{Op}
use Rattle.s38_base.specs.declared.op.Op.TheVariants.{Addn, Subn, Mult, Div, Rem, Neg, Cpynv, Scale, Cmpnvb, Cpybla, Cpybra, Cpyblap, Cat, Xlate, Cvthc, Cvtch, And, Or, Xor, Not, Cmpblab, B, Calli, Rtx, Sigexcp, Retexcpd, Modexcpd, Cmpptrt, Addspp, Subspp, Rslvsp, Setsppfp, Setspfp, Setdp, Cpybwp, Crtctx, Modadr, Rename, Matctx, Crtup, Modup, Grant, Retract, Xfro, Testau, Matau, Matauobj, Crtpg, Callx, Xctl, Lock, Unlock, Xfrlock, Matobjlk, Crts, Mods, Crtq, Enq, Deq, Crtinx, Insinxen, Fndinxen, Rmvinxen, Crtds, Crtcr, Setcr, Insdsen, Retdsen, Updsen, Deldsen, Crtjs, Crtjp, Jrnlobj, Retjent, Crtcb, Commit, Decommit, Ensobj, Desctx, Desup, Despg, Dess, Desq, Desinx, Desds, Descr, Desjs, Desjp, Descb}
use Rattle.s38_code.specs.Operations.{mnemonic}
use Rattle.s38_words.specs.Text.{is_word}

-- all operations, in the order of their mnemonics
unfoldable pub operations : List Op
operations = Addn ∷ Addspp ∷ And ∷ B ∷ Calli ∷ Callx ∷ Cat ∷ Cmpblab ∷ Cmpnvb ∷ Cmpptrt ∷ Commit ∷ Cpybla ∷ Cpyblap ∷ Cpybra ∷ Cpybwp ∷ Cpynv ∷ Crtcb ∷ Crtcr ∷ Crtctx ∷ Crtds ∷ Crtinx ∷ Crtjp ∷ Crtjs ∷ Crtpg ∷ Crtq ∷ Crts ∷ Crtup ∷ Cvtch ∷ Cvthc ∷ Decommit ∷ Deldsen ∷ Deq ∷ Descb ∷ Descr ∷ Desctx ∷ Desds ∷ Desinx ∷ Desjp ∷ Desjs ∷ Despg ∷ Desq ∷ Dess ∷ Desup ∷ Div ∷ Enq ∷ Ensobj ∷ Fndinxen ∷ Grant ∷ Insdsen ∷ Insinxen ∷ Jrnlobj ∷ Lock ∷ Matau ∷ Matauobj ∷ Matctx ∷ Matobjlk ∷ Modadr ∷ Modexcpd ∷ Mods ∷ Modup ∷ Mult ∷ Neg ∷ Not ∷ Or ∷ Rem ∷ Rename ∷ Retdsen ∷ Retexcpd ∷ Retjent ∷ Retract ∷ Rmvinxen ∷ Rslvsp ∷ Rtx ∷ Scale ∷ Setcr ∷ Setdp ∷ Setspfp ∷ Setsppfp ∷ Sigexcp ∷ Subn ∷ Subspp ∷ Testau ∷ Unlock ∷ Updsen ∷ Xctl ∷ Xfrlock ∷ Xfro ∷ Xlate ∷ Xor ∷ []

-- the first of these that a word is the mnemonic of
abbrev pub first_op : List Op → List ℕ → Option Op
first_op [] word = None
first_op (op ∷ ops) word = if is_word (mnemonic op) word then Some op else first_op ops word

-- the operations whose mnemonics begin with a letter
unfoldable pub beginning_with : ℕ → List Op
beginning_with letter =
    if letter == 65 then Addn ∷ And ∷ Addspp ∷ []
    else (if letter == 66 then B ∷ []
    else (if letter == 67 then Cmpnvb ∷ Cpybla ∷ Cpynv ∷ Callx ∷ Cpybra ∷ Cpyblap ∷ Cat ∷ Cvthc ∷ Cvtch ∷ Cmpblab ∷ Calli ∷ Cmpptrt ∷ Cpybwp ∷ Crtctx ∷ Crtup ∷ Crtpg ∷ Crts ∷ Crtq ∷ Crtinx ∷ Crtds ∷ Crtcr ∷ Crtjs ∷ Crtjp ∷ Crtcb ∷ Commit ∷ []
    else (if letter == 68 then Deq ∷ Div ∷ Deldsen ∷ Decommit ∷ Desctx ∷ Desup ∷ Despg ∷ Dess ∷ Desq ∷ Desinx ∷ Desds ∷ Descr ∷ Desjs ∷ Desjp ∷ Descb ∷ []
    else (if letter == 69 then Enq ∷ Ensobj ∷ []
    else (if letter == 70 then Fndinxen ∷ []
    else (if letter == 71 then Grant ∷ []
    else (if letter == 73 then Insinxen ∷ Insdsen ∷ []
    else (if letter == 74 then Jrnlobj ∷ []
    else (if letter == 76 then Lock ∷ []
    else (if letter == 77 then Mult ∷ Modexcpd ∷ Modadr ∷ Matctx ∷ Modup ∷ Matau ∷ Matauobj ∷ Matobjlk ∷ Mods ∷ []
    else (if letter == 78 then Neg ∷ Not ∷ []
    else (if letter == 79 then Or ∷ []
    else (if letter == 82 then Rtx ∷ Rslvsp ∷ Rem ∷ Retexcpd ∷ Rename ∷ Retract ∷ Rmvinxen ∷ Retdsen ∷ Retjent ∷ []
    else (if letter == 83 then Subn ∷ Scale ∷ Sigexcp ∷ Subspp ∷ Setsppfp ∷ Setspfp ∷ Setdp ∷ Setcr ∷ []
    else (if letter == 84 then Testau ∷ []
    else (if letter == 85 then Unlock ∷ Updsen ∷ []
    else (if letter == 88 then Xlate ∷ Xor ∷ Xfro ∷ Xctl ∷ Xfrlock ∷ []
    else [])))))))))))))))))

-- the operation that a word is the mnemonic of
abbrev pub op_of : List ℕ → Option Op
op_of word = first_op operations word
