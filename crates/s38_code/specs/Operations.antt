-- The one table of operations, column by column: the mnemonic, the classes of the operands, what they owe together,
-- the kind of the object that it makes, whether its result may be rounded, and its family.
use Rattle.std.specs.Prelude.{ℕ, Bool, true, false, List, [], ◌∷◌, codes, Option, Some, None}
use Rattle.s38_base.specs.declared.id.Kind.{Kind}
use Rattle.s38_base.specs.declared.id.Kind.TheVariants as kinds
use Rattle.s38_base.specs.declared.op.Op.{Op}
use Rattle.s38_base.specs.declared.op.Op.TheVariants.{Addn, Subn, Mult, Div, Rem, Neg, Cpynv, Scale, Cmpnvb, Cpybla, Cpybra, Cpyblap, Cat, Xlate, Cvthc, Cvtch, And, Or, Xor, Not, Cmpblab, B, Calli, Rtx, Sigexcp, Retexcpd, Modexcpd, Cmpptrt, Addspp, Subspp, Rslvsp, Setsppfp, Setspfp, Setdp, Cpybwp, Crtctx, Modadr, Rename, Matctx, Crtup, Modup, Grant, Retract, Xfro, Testau, Matau, Matauobj, Crtpg, Callx, Xctl, Lock, Unlock, Xfrlock, Matobjlk, Crts, Mods, Crtq, Enq, Deq, Crtinx, Insinxen, Fndinxen, Rmvinxen, Crtds, Crtcr, Setcr, Insdsen, Retdsen, Updsen, Deldsen, Crtjs, Crtjp, Jrnlobj, Retjent, Crtcb, Commit, Decommit, Ensobj, Desctx, Desup, Despg, Dess, Desq, Desinx, Desds, Descr, Desjs, Desjp, Descb}
use Rattle.s38_code.specs.declared.class.Class.{Class}
use Rattle.s38_code.specs.declared.class.Class.TheVariants.{NumberSource, NumberReceiver, BytesSource, BytesOrNone, BytesReceiver, PointerSource, PointerReceiver, CellsSource, CellsReceiver, Context, ContextOrList, PointerOrNone, UserOrPublic, Handler, Argument, Constant, Keyword}
use Rattle.s38_code.specs.declared.class.Constant.TheVariants.{Identification, Label, Whole, Power, Attribute, Attributes, ExceptionCode, TemplateName, JobName}
use Rattle.s38_code.specs.declared.class.Keyword.TheVariants.{Rights, Specials, LockState, Wait, Relation, Comparison, Order, Seek, PointerKind, Switch}
use Rattle.s38_code.specs.declared.family.Family.{Family}
use Rattle.s38_code.specs.declared.family.Family.TheVariants.{Computing, Branching, Resolving, Contexts, Profiles, Grants, Programs, Locks, Spaces, Queues, Indexes, DataSpaces, Journals}
use Rattle.s38_code.specs.declared.rule.OperandRule.{OperandRule}
use Rattle.s38_code.specs.declared.rule.OperandRule.TheVariants.{Free, EqualLengths, EqualTables, OneByte, TwiceTheSource, TwiceTheReceiver, TwoLocalBytes, ShortBinary, Parameters, QueueLengths, EntryLength}

-- ---- how decks and job logs write it

unfoldable pub mnemonic : Op → List ℕ
mnemonic Addn = codes "ADDN"
mnemonic Subn = codes "SUBN"
mnemonic Mult = codes "MULT"
mnemonic Div = codes "DIV"
mnemonic Rem = codes "REM"
mnemonic Neg = codes "NEG"
mnemonic Cpynv = codes "CPYNV"
mnemonic Scale = codes "SCALE"
mnemonic Cmpnvb = codes "CMPNVB"
mnemonic Cpybla = codes "CPYBLA"
mnemonic Cpybra = codes "CPYBRA"
mnemonic Cpyblap = codes "CPYBLAP"
mnemonic Cat = codes "CAT"
mnemonic Xlate = codes "XLATE"
mnemonic Cvthc = codes "CVTHC"
mnemonic Cvtch = codes "CVTCH"
mnemonic And = codes "AND"
mnemonic Or = codes "OR"
mnemonic Xor = codes "XOR"
mnemonic Not = codes "NOT"
mnemonic Cmpblab = codes "CMPBLAB"
mnemonic B = codes "B"
mnemonic Calli = codes "CALLI"
mnemonic Rtx = codes "RTX"
mnemonic Sigexcp = codes "SIGEXCP"
mnemonic Retexcpd = codes "RETEXCPD"
mnemonic Modexcpd = codes "MODEXCPD"
mnemonic Cmpptrt = codes "CMPPTRT"
mnemonic Addspp = codes "ADDSPP"
mnemonic Subspp = codes "SUBSPP"
mnemonic Rslvsp = codes "RSLVSP"
mnemonic Setsppfp = codes "SETSPPFP"
mnemonic Setspfp = codes "SETSPFP"
mnemonic Setdp = codes "SETDP"
mnemonic Cpybwp = codes "CPYBWP"
mnemonic Crtctx = codes "CRTCTX"
mnemonic Modadr = codes "MODADR"
mnemonic Rename = codes "RENAME"
mnemonic Matctx = codes "MATCTX"
mnemonic Crtup = codes "CRTUP"
mnemonic Modup = codes "MODUP"
mnemonic Grant = codes "GRANT"
mnemonic Retract = codes "RETRACT"
mnemonic Xfro = codes "XFRO"
mnemonic Testau = codes "TESTAU"
mnemonic Matau = codes "MATAU"
mnemonic Matauobj = codes "MATAUOBJ"
mnemonic Crtpg = codes "CRTPG"
mnemonic Callx = codes "CALLX"
mnemonic Xctl = codes "XCTL"
mnemonic Lock = codes "LOCK"
mnemonic Unlock = codes "UNLOCK"
mnemonic Xfrlock = codes "XFRLOCK"
mnemonic Matobjlk = codes "MATOBJLK"
mnemonic Crts = codes "CRTS"
mnemonic Mods = codes "MODS"
mnemonic Crtq = codes "CRTQ"
mnemonic Enq = codes "ENQ"
mnemonic Deq = codes "DEQ"
mnemonic Crtinx = codes "CRTINX"
mnemonic Insinxen = codes "INSINXEN"
mnemonic Fndinxen = codes "FNDINXEN"
mnemonic Rmvinxen = codes "RMVINXEN"
mnemonic Crtds = codes "CRTDS"
mnemonic Crtcr = codes "CRTCR"
mnemonic Setcr = codes "SETCR"
mnemonic Insdsen = codes "INSDSEN"
mnemonic Retdsen = codes "RETDSEN"
mnemonic Updsen = codes "UPDSEN"
mnemonic Deldsen = codes "DELDSEN"
mnemonic Crtjs = codes "CRTJS"
mnemonic Crtjp = codes "CRTJP"
mnemonic Jrnlobj = codes "JRNLOBJ"
mnemonic Retjent = codes "RETJENT"
mnemonic Crtcb = codes "CRTCB"
mnemonic Commit = codes "COMMIT"
mnemonic Decommit = codes "DECOMMIT"
mnemonic Ensobj = codes "ENSOBJ"
mnemonic Desctx = codes "DESCTX"
mnemonic Desup = codes "DESUP"
mnemonic Despg = codes "DESPG"
mnemonic Dess = codes "DESS"
mnemonic Desq = codes "DESQ"
mnemonic Desinx = codes "DESINX"
mnemonic Desds = codes "DESDS"
mnemonic Descr = codes "DESCR"
mnemonic Desjs = codes "DESJS"
mnemonic Desjp = codes "DESJP"
mnemonic Descb = codes "DESCB"

-- ---- what is at each place

-- a pointer to the new object, its context, its identification and its public rights begin most rows that create
abbrev pub creating : List Class → List Class
creating more = PointerReceiver ∷ PointerOrNone ∷ Constant Identification ∷ Keyword Rights ∷ more

-- sixteen arguments at most
abbrev pub arguments : List Class
arguments =
    Argument ∷ Argument ∷ Argument ∷ Argument ∷ Argument ∷ Argument ∷ Argument ∷ Argument
    ∷ Argument ∷ Argument ∷ Argument ∷ Argument ∷ Argument ∷ Argument ∷ Argument ∷ Argument ∷ []

unfoldable pub classes : Op → List Class
classes Addn = NumberReceiver ∷ NumberSource ∷ NumberSource ∷ []
classes Subn = NumberReceiver ∷ NumberSource ∷ NumberSource ∷ []
classes Mult = NumberReceiver ∷ NumberSource ∷ NumberSource ∷ []
classes Div = NumberReceiver ∷ NumberSource ∷ NumberSource ∷ []
classes Rem = NumberReceiver ∷ NumberSource ∷ NumberSource ∷ []
classes Neg = NumberReceiver ∷ NumberSource ∷ []
classes Cpynv = NumberReceiver ∷ NumberSource ∷ []
classes Scale = NumberReceiver ∷ NumberSource ∷ Constant Power ∷ []
classes Cmpnvb = NumberSource ∷ NumberSource ∷ Keyword Comparison ∷ Constant Label ∷ []
classes Cpybla = BytesReceiver ∷ BytesSource ∷ []
classes Cpybra = BytesReceiver ∷ BytesSource ∷ []
classes Cpyblap = BytesReceiver ∷ BytesSource ∷ BytesSource ∷ []
classes Cat = BytesReceiver ∷ BytesSource ∷ BytesSource ∷ []
classes Xlate = BytesReceiver ∷ BytesSource ∷ BytesSource ∷ BytesSource ∷ []
classes Cvthc = BytesReceiver ∷ BytesSource ∷ []
classes Cvtch = BytesReceiver ∷ BytesSource ∷ []
classes And = BytesReceiver ∷ BytesSource ∷ BytesSource ∷ []
classes Or = BytesReceiver ∷ BytesSource ∷ BytesSource ∷ []
classes Xor = BytesReceiver ∷ BytesSource ∷ BytesSource ∷ []
classes Not = BytesReceiver ∷ BytesSource ∷ []
classes Cmpblab = BytesSource ∷ BytesSource ∷ Keyword Comparison ∷ Constant Label ∷ []
classes B = Constant Label ∷ []
classes Calli = Constant Label ∷ []
classes Rtx = []
classes Sigexcp = Constant ExceptionCode ∷ []
classes Retexcpd = BytesReceiver ∷ []
classes Modexcpd = Handler ∷ Keyword Switch ∷ []
classes Cmpptrt = PointerSource ∷ Keyword PointerKind ∷ Constant Label ∷ []
classes Addspp = PointerReceiver ∷ PointerSource ∷ NumberSource ∷ []
classes Subspp = PointerReceiver ∷ PointerSource ∷ NumberSource ∷ []
classes Rslvsp = PointerReceiver ∷ ContextOrList ∷ Constant Identification ∷ Keyword Rights ∷ []
classes Setsppfp = PointerReceiver ∷ PointerSource ∷ []
classes Setspfp = PointerReceiver ∷ PointerSource ∷ []
classes Setdp = PointerReceiver ∷ PointerSource ∷ Constant Attribute ∷ []
classes Cpybwp = CellsReceiver ∷ CellsSource ∷ []
classes Crtctx = PointerReceiver ∷ Constant Identification ∷ Keyword Rights ∷ []
classes Modadr = PointerSource ∷ PointerOrNone ∷ []
classes Rename = PointerSource ∷ Constant Identification ∷ []
classes Matctx = BytesReceiver ∷ Context ∷ []
classes Crtup = PointerReceiver ∷ Constant Identification ∷ Keyword Specials ∷ Constant Whole ∷ []
classes Modup = PointerSource ∷ Keyword Specials ∷ Constant Whole ∷ []
classes Grant = PointerSource ∷ UserOrPublic ∷ Keyword Rights ∷ []
classes Retract = PointerSource ∷ UserOrPublic ∷ Keyword Rights ∷ []
classes Xfro = PointerSource ∷ PointerSource ∷ []
classes Testau = NumberReceiver ∷ PointerSource ∷ Keyword Rights ∷ []
classes Matau = BytesReceiver ∷ PointerSource ∷ UserOrPublic ∷ []
classes Matauobj = BytesReceiver ∷ PointerSource ∷ []
classes Crtpg = creating (Constant TemplateName ∷ [])
classes Callx = PointerSource ∷ arguments
classes Xctl = PointerSource ∷ arguments
classes Lock = PointerSource ∷ Keyword LockState ∷ Keyword Wait ∷ []
classes Unlock = PointerSource ∷ Keyword LockState ∷ []
classes Xfrlock = PointerSource ∷ Keyword LockState ∷ Constant JobName ∷ []
classes Matobjlk = BytesReceiver ∷ PointerSource ∷ []
classes Crts = creating (NumberSource ∷ [])
classes Mods = PointerSource ∷ NumberSource ∷ []
classes Crtq = creating (Keyword Order ∷ Constant Whole ∷ Constant Whole ∷ [])
classes Enq = PointerSource ∷ BytesOrNone ∷ BytesSource ∷ []
classes Deq = BytesReceiver ∷ PointerSource ∷ Keyword Relation ∷ BytesOrNone ∷ Keyword Wait ∷ []
classes Crtinx = creating (Constant Whole ∷ [])
classes Insinxen = PointerSource ∷ BytesSource ∷ []
classes Fndinxen = BytesReceiver ∷ PointerSource ∷ Keyword Relation ∷ BytesSource ∷ []
classes Rmvinxen = PointerSource ∷ BytesSource ∷ []
classes Crtds = creating (Constant Attributes ∷ [])
classes Crtcr = creating (PointerSource ∷ PointerOrNone ∷ [])
classes Setcr = PointerSource ∷ Keyword Seek ∷ NumberSource ∷ []
classes Insdsen = PointerSource ∷ BytesSource ∷ []
classes Retdsen = BytesReceiver ∷ PointerSource ∷ []
classes Updsen = PointerSource ∷ BytesSource ∷ []
classes Deldsen = PointerSource ∷ []
classes Crtjs = creating []
classes Crtjp = creating (PointerSource ∷ [])
classes Jrnlobj = PointerSource ∷ PointerSource ∷ []
classes Retjent = BytesReceiver ∷ PointerSource ∷ NumberSource ∷ []
classes Crtcb = creating (PointerSource ∷ [])
classes Commit = PointerSource ∷ []
classes Decommit = PointerSource ∷ []
classes Ensobj = PointerSource ∷ []
classes Desctx = PointerSource ∷ []
classes Desup = PointerSource ∷ []
classes Despg = PointerSource ∷ []
classes Dess = PointerSource ∷ []
classes Desq = PointerSource ∷ []
classes Desinx = PointerSource ∷ []
classes Desds = PointerSource ∷ []
classes Descr = PointerSource ∷ []
classes Desjs = PointerSource ∷ []
classes Desjp = PointerSource ∷ []
classes Descb = PointerSource ∷ []

-- ---- what the operands owe together, beside the class of each

unfoldable pub operand_rule : Op → OperandRule
operand_rule Cpyblap = OneByte
operand_rule Xlate = EqualTables
operand_rule Cvthc = TwiceTheSource
operand_rule Cvtch = TwiceTheReceiver
operand_rule And = EqualLengths
operand_rule Or = EqualLengths
operand_rule Xor = EqualLengths
operand_rule Not = EqualLengths
operand_rule Retexcpd = TwoLocalBytes
operand_rule Cpybwp = EqualLengths
operand_rule Testau = ShortBinary
operand_rule Xctl = Parameters
operand_rule Crtq = QueueLengths
operand_rule Crtinx = EntryLength
operand_rule _ = Free

-- ---- the kind of the object that it makes

unfoldable pub made_kind : Op → Option Kind
made_kind Crtctx = Some kinds.Context
made_kind Crtup = Some kinds.Profile
made_kind Crtpg = Some kinds.Program
made_kind Crts = Some kinds.Space
made_kind Crtq = Some kinds.Queue
made_kind Crtinx = Some kinds.Index
made_kind Crtds = Some kinds.DataSpace
made_kind Crtcr = Some kinds.Cursor
made_kind Crtjs = Some kinds.Journal
made_kind Crtjp = Some kinds.Port
made_kind Crtcb = Some kinds.Block
made_kind _ = None

-- ---- whether (R) may follow the mnemonic

unfoldable pub may_round : Op → Bool
may_round Addn = true
may_round Subn = true
may_round Mult = true
may_round Div = true
may_round Rem = true
may_round Neg = true
may_round Cpynv = true
may_round _ = false

-- ---- the part of the machine that does it

unfoldable pub family_of : Op → Family
family_of Addn = Computing
family_of Subn = Computing
family_of Mult = Computing
family_of Div = Computing
family_of Rem = Computing
family_of Neg = Computing
family_of Cpynv = Computing
family_of Scale = Computing
family_of Cmpnvb = Computing
family_of Cpybla = Computing
family_of Cpybra = Computing
family_of Cpyblap = Computing
family_of Cat = Computing
family_of Xlate = Computing
family_of Cvthc = Computing
family_of Cvtch = Computing
family_of And = Computing
family_of Or = Computing
family_of Xor = Computing
family_of Not = Computing
family_of Cmpblab = Computing
family_of B = Branching
family_of Calli = Branching
family_of Rtx = Branching
family_of Sigexcp = Branching
family_of Retexcpd = Branching
family_of Modexcpd = Branching
family_of Cmpptrt = Computing
family_of Addspp = Computing
family_of Subspp = Computing
family_of Rslvsp = Resolving
family_of Setsppfp = Spaces
family_of Setspfp = Resolving
family_of Setdp = Spaces
family_of Cpybwp = Spaces
family_of Crtctx = Contexts
family_of Modadr = Contexts
family_of Rename = Contexts
family_of Matctx = Contexts
family_of Crtup = Profiles
family_of Modup = Profiles
family_of Grant = Grants
family_of Retract = Grants
family_of Xfro = Grants
family_of Testau = Grants
family_of Matau = Grants
family_of Matauobj = Grants
family_of Crtpg = Programs
family_of Callx = Programs
family_of Xctl = Programs
family_of Lock = Locks
family_of Unlock = Locks
family_of Xfrlock = Locks
family_of Matobjlk = Locks
family_of Crts = Spaces
family_of Mods = Spaces
family_of Crtq = Queues
family_of Enq = Queues
family_of Deq = Queues
family_of Crtinx = Indexes
family_of Insinxen = Indexes
family_of Fndinxen = Indexes
family_of Rmvinxen = Indexes
family_of Crtds = DataSpaces
family_of Crtcr = DataSpaces
family_of Setcr = DataSpaces
family_of Insdsen = DataSpaces
family_of Retdsen = DataSpaces
family_of Updsen = DataSpaces
family_of Deldsen = DataSpaces
family_of Crtjs = Journals
family_of Crtjp = Journals
family_of Jrnlobj = Journals
family_of Retjent = Journals
family_of Crtcb = Journals
family_of Commit = Journals
family_of Decommit = Journals
family_of Ensobj = Journals
family_of Desctx = Contexts
family_of Desup = Profiles
family_of Despg = Programs
family_of Dess = Spaces
family_of Desq = Queues
family_of Desinx = Indexes
family_of Desds = DataSpaces
family_of Descr = DataSpaces
family_of Desjs = Journals
family_of Desjp = Journals
family_of Descb = Journals
