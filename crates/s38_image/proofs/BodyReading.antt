-- The tags of what was read.
use Rattle.std.proofs.Common.{◌≡◌, ℕ, zero, suc, ◌*◌, Bool, true, false, cond, eqb, List, [], ◌∷◌, length, map, take, Option, Some, None, refl, sym, ap, ◌∙◌, arith}
use Rattle.std.specs.Prelude.{◌&&◌}
use Rattle.std.specs.List.{list_all}
use Rattle.std.proofs.lemmas.Bool.Decides.{nat_tests}
use Rattle.s38_base.specs.declared.id.Kind.{Kind}
use Rattle.s38_base.specs.declared.id.Kind.TheVariants as kinds
use Rattle.s38_base.specs.declared.page.Change.{Change}
use Rattle.s38_codec.specs.Codec.{AreBytes, byte_is_zero, copies, ◌>>=◌}
use Rattle.s38_codec.specs.Formats.{IsSpelling, Spelling}
use Rattle.s38_image.proofs.BodyLaws.{body_is}
use Rattle.s38_image.proofs.ImageLaws.{print_same}
use Rattle.s38_image.proofs.SpaceLaws.{cells_bytes, length_cells}
use Rattle.s38_image.specs.Bodies.{BodyImage, body, body_bytes, body_tags, tags_by}
use Rattle.s38_image.specs.Fitting.{FitsBody}
use Rattle.s38_image.specs.Pages.{needed, no_tags, same_list, tagged_right, tags_in}
use Rattle.s38_image.specs.Spaces.{flags_in, is_tagged, space_tags, tag_numbers}
use Rattle.s38_image.specs.Steps.{body_image, has_tags, read_tagged}
use Rattle.s38_rules.specs.declared.object.Body.{Body}
use Rattle.s38_rules.specs.declared.object.Body.TheVariants as bodies

turned : (n : ℕ) → eqb 0 n ≡ eqb n 0
turned zero = refl
turned (suc n) = grind (arith, nat_tests)

pub zero_tags : (tags : List ℕ) → same_list (copies (length tags) 0) tags ≡ list_all byte_is_zero tags
unfolding same_list copies
zero_tags [] = refl
zero_tags (t ∷ ts) = ap (λ (b : Bool). b && same_list (copies (length ts) 0) ts) (turned t) ∙ ap (λ (b : Bool). eqb t 0 && b) (zero_tags ts)

-- a value whose pages should have no tags
pub untagged_right : {A : Type 0} (s : Spelling A) (tags : List ℕ) (x : A) → needed (length (s.print x)) ≡ length tags → tagged_right (no_tags s) tags x ≡ cond (list_all byte_is_zero tags) (Some x) None
untagged_right {A} s tags x long = ap (λ (n : ℕ). cond (same_list (copies n 0) tags) (Some x) None) long ∙ ap (λ (b : Bool). cond b (Some x) None) (zero_tags tags)

-- a space has as many cells as its pages hold
abbrev PagesOf : Kind → Body → ℕ → Type 0
PagesOf kinds.Space (bodies.Space cells) n = needed (16 * length cells) ≡ n
PagesOf _ _ n = Unit {0}

tags_same : (k : Kind) (b : Body) (tags : List ℕ) → PagesOf k b (length tags) → same_list (tags_by k b (length tags)) tags ≡ has_tags k b tags
tags_same kinds.Space (bodies.Space cells) tags h = ap (λ (n : ℕ). same_list (tag_numbers n (map is_tagged cells)) tags) h
tags_same kinds.Space bodies.Context tags h = zero_tags tags
tags_same kinds.Space (bodies.Program p) tags h = zero_tags tags
tags_same kinds.Space (bodies.Profile s l) tags h = zero_tags tags
tags_same kinds.Space (bodies.Queue q) tags h = zero_tags tags
tags_same kinds.Space (bodies.Index i) tags h = zero_tags tags
tags_same kinds.Space (bodies.DataSpace d) tags h = zero_tags tags
tags_same kinds.Space (bodies.Cursor c) tags h = zero_tags tags
tags_same kinds.Space (bodies.Port p) tags h = zero_tags tags
tags_same kinds.Space (bodies.Journal j) tags h = zero_tags tags
tags_same kinds.Space (bodies.Block c) tags h = zero_tags tags
tags_same kinds.Context b tags h = zero_tags tags
tags_same kinds.Program b tags h = zero_tags tags
tags_same kinds.Profile b tags h = zero_tags tags
tags_same kinds.Queue b tags h = zero_tags tags
tags_same kinds.Index b tags h = zero_tags tags
tags_same kinds.DataSpace b tags h = zero_tags tags
tags_same kinds.Cursor b tags h = zero_tags tags
tags_same kinds.Port b tags h = zero_tags tags
tags_same kinds.Journal b tags h = zero_tags tags
tags_same kinds.Block b tags h = zero_tags tags

space_pages : (tags bytes : List ℕ) (b : Body) (n : ℕ) → FitsBody kinds.Space tags (body_image b n) → bytes ≡ (body kinds.Space tags).print (body_image b n) → needed (length bytes) ≡ length tags → PagesOf kinds.Space b (length tags)
space_pages tags bytes (bodies.Space cells) zero fits printed long =
    let size : length bytes ≡ 16 * length cells = ap length printed ∙ length_cells (take (length cells) (flags_in tags)) cells fits.cells in
    sym (ap needed size) ∙ long
space_pages tags bytes (bodies.Space cells) (suc n) fits printed long = absurd fits
space_pages tags bytes bodies.Context n fits printed long = tt
space_pages tags bytes (bodies.Program p) n fits printed long = tt
space_pages tags bytes (bodies.Profile s l) n fits printed long = tt
space_pages tags bytes (bodies.Queue q) n fits printed long = tt
space_pages tags bytes (bodies.Index i) n fits printed long = tt
space_pages tags bytes (bodies.DataSpace d) n fits printed long = tt
space_pages tags bytes (bodies.Cursor c) n fits printed long = tt
space_pages tags bytes (bodies.Port p) n fits printed long = tt
space_pages tags bytes (bodies.Journal j) n fits printed long = tt
space_pages tags bytes (bodies.Block c) n fits printed long = tt

pages_of : (k : Kind) (tags bytes : List ℕ) (b : Body) (n : ℕ) → FitsBody k tags (body_image b n) → bytes ≡ (body k tags).print (body_image b n) → needed (length bytes) ≡ length tags → PagesOf k b (length tags)
pages_of kinds.Space tags bytes b n fits printed long = space_pages tags bytes b n fits printed long
pages_of kinds.Context tags bytes b n fits printed long = tt
pages_of kinds.Program tags bytes b n fits printed long = tt
pages_of kinds.Profile tags bytes b n fits printed long = tt
pages_of kinds.Queue tags bytes b n fits printed long = tt
pages_of kinds.Index tags bytes b n fits printed long = tt
pages_of kinds.DataSpace tags bytes b n fits printed long = tt
pages_of kinds.Cursor tags bytes b n fits printed long = tt
pages_of kinds.Port tags bytes b n fits printed long = tt
pages_of kinds.Journal tags bytes b n fits printed long = tt
pages_of kinds.Block tags bytes b n fits printed long = tt

abbrev pub some_image : BodyImage → Option BodyImage
some_image i = Some i

-- a body has its tags where its pages have them
pub body_right : (k : Kind) (tags bytes : List ℕ) (b : Body) (n : ℕ) → AreBytes bytes → (body k tags).read bytes ≡ Some (body_image b n) → needed (length bytes) ≡ length tags
    → tagged_right (body_tags k) tags (body_image b n) ≡ cond (has_tags k b tags) (some_image (body_image b n)) None
body_right k tags bytes b n fine e long =
    let i = body_image b n in
    let m = (body_is k tags).exact bytes i fine e in
    let size : needed (length (body_bytes k i)) ≡ length tags = ap (λ (t : List ℕ). needed (length t)) (sym (print_same k tags i) ∙ sym m.0) ∙ long in
    ap (λ (p : ℕ). cond (same_list (tags_by k b p) tags) (some_image i) None) size
    ∙ ap (λ (t : Bool). cond t (some_image i) None) (tags_same k b tags (pages_of k tags bytes b n m.1 m.0 long))

length_tags : (ps : List Change) → length (tags_in ps) ≡ length ps
length_tags [] = refl
length_tags (p ∷ ps) = ap suc (length_tags ps)

-- a value without tags in some parts
pub untagged_read : {A : Type 0} (s : Spelling A) (Fits : A → Type 0) → IsSpelling A s Fits → (ps : List Change) (bytes : List ℕ) (x : A) → AreBytes bytes → needed (length bytes) ≡ length ps → s.read bytes ≡ Some x
    → read_tagged s (no_tags s) ps bytes ≡ cond (list_all byte_is_zero (tags_in ps)) (Some x) None
untagged_read {A} s Fits is ps bytes x fine long e =
    let printed : needed (length (s.print x)) ≡ length (tags_in ps) = ap (λ (t : List ℕ). needed (length t)) (sym (is.exact bytes x fine e).0) ∙ long ∙ sym (length_tags ps) in
    ap (λ (o : Option A). o >>= λ y. tagged_right (no_tags s) (tags_in ps) y) e ∙ untagged_right s (tags_in ps) x printed

abbrev pub some_tags : List ℕ → Option (List ℕ)
some_tags tags = Some tags

same_tags : (xs ys : List ℕ) → some_tags xs ≡ some_tags ys → xs ≡ ys
same_tags xs ys e = cc

-- a body in some parts, of which the tags were read
pub body_read : (k : Kind) (ps : List Change) (tags bytes : List ℕ) (b : Body) (n : ℕ) → AreBytes bytes → needed (length bytes) ≡ length ps → some_tags (tags_in ps) ≡ some_tags tags → (body k tags).read bytes ≡ Some (body_image b n)
    → read_tagged (body k (tags_in ps)) (body_tags k) ps bytes ≡ cond (has_tags k b tags) (some_image (body_image b n)) None
body_read k ps tags bytes b n fine long same e =
    let tags_are : tags_in ps ≡ tags = same_tags (tags_in ps) tags same in
    let read : (body k (tags_in ps)).read bytes ≡ Some (body_image b n) = ap (λ (t : List ℕ). (body k t).read bytes) tags_are ∙ e in
    ap (λ (o : Option BodyImage). o >>= λ i. tagged_right (body_tags k) (tags_in ps) i) read
    ∙ body_right k (tags_in ps) bytes b n fine read (long ∙ sym (length_tags ps))
    ∙ ap (λ (t : List ℕ). cond (has_tags k b t) (some_image (body_image b n)) None) tags_are
