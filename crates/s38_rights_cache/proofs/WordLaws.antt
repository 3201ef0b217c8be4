-- What the words of change that are not quiet do to objects, owners and users.
use Rattle.std.proofs.Common.{◌≡◌, ◌<◌, ◌≤◌, ℕ, zero, suc, ◌+◌, ◌-◌, ◌==◌, ◌&&◌, ◌||◌, Bool, true, false, not, cond, List, [], ◌∷◌, refl, sym, ap, ◌∙◌, subst, arith}
use Rattle.std.proofs.lemmas.Bool.Decides.{nat_tests}
use Rattle.std.proofs.lemmas.Bool.{cond_both, true≢false}
use Rattle.std.proofs.lemmas.List.Folds.{find-append}
use Rattle.std.specs.List.{list_any}
use Rattle.std.specs.Option.{option_map, option_or}
use Rattle.std.specs.Prelude.{Option, Some, None, is_some, slice_get}
use Rattle.s38_base.specs.Ids.{same_kind}
use Rattle.s38_base.specs.declared.id.Id.{Id}
use Rattle.s38_base.specs.declared.id.Kind.{Kind}
use Rattle.s38_base.specs.declared.id.Kind.TheVariants as kinds
use Rattle.s38_base.specs.declared.rights.Special.{Special}
use Rattle.s38_rules.proofs.ChargeLaws.{KeepsNumber, object_changed, object_without}
use Rattle.s38_rules.specs.ask.Authority.{is_profile}
use Rattle.s38_rules.specs.families.Creation.{created, creation_changes, destroyed, is_of_kind, new_object}
use Rattle.s38_rules.specs.state.Headers.{header_in}
use Rattle.s38_rules.specs.state.Held.{Held, change, has_number, is_there, kind_of, object, object_in, with_object, without}
use Rattle.s38_rules.specs.state.Parts.{over_object, profile_part}
use Rattle.s38_rules.specs.families.Profiles.{is_live as is_live_for, is_needed, officer, is_owner, is_profile_in, is_user, owns}
use Rattle.s38_rules.specs.state.Access.{Access, access_of, on_access, with_access}
use Rattle.s38_rules.specs.state.State.{State, started_in}
use Rattle.s38_rules.specs.ask.Users.{adoption_of, user_in, user_of}
use Rattle.s38_rules.specs.declared.creating.Creating.{Creating}
use Rattle.s38_rules.specs.declared.object.Body.TheVariants as bodies
use Rattle.s38_rules.specs.declared.object.Body.{Body}
use Rattle.s38_rules.specs.declared.object.Object.{Object}
use Rattle.s38_rules.specs.declared.process.ProcessEntry.{ProcessEntry}
use Rattle.s38_rules.specs.declared.process.Started.{Started}
use Rattle.s38_rights_cache.specs.Places.{AreOwned, is_live, is_live_in}
use Rattle.s38_rights_cache.proofs.BearLaws.{AdoptsSo, IsSame, IsSameUser, adopts_same, owner_same, same_bears, same_user, there_same}
use Rattle.s38_rights_cache.proofs.KeepLaws.{Leaves}
use Rattle.s38_rights_cache.proofs.SameLaws.{Same}

nat_same : (a b : ℕ) → (a == b) ≡ true → a ≡ b
nat_same a b h = grind (arith, nat_tests)

-- ---- what is the same

some_back : (x y : Option Object) → IsSame x y → (o : Object) → y ≡ Some o → (p : Object) × (x ≡ Some p) × (o.owner.0 ≡ p.owner.0)
some_back None None s o e = cc
some_back None (Some y) s o e = absurd s
some_back (Some x) None s o e = absurd s
some_back (Some x) (Some y) s o e = (x, refl, ap (λ (z : Option Object). owner_of z) (sym e) ∙ owner_same (Some x) (Some y) s)
  where
    owner_of : Option Object → ℕ
    owner_of None = 0
    owner_of (Some z) = z.owner.0

pub same_owned : (h k : Held) → Same h k → AreOwned h → AreOwned k
same_owned h k same owned = record {
  numbers = λ n there. omega (arith, owned.numbers n (sym (there_same (object h n) (object k n) (same.objects n)) ∙ there), same.next);
  owners = λ n o e.
      let was = some_back (object h n) (object k n) (same.objects n) o e in
      omega (arith, owned.owners n was.0 was.1, was.2, same.next);
}

pub same_leaves : (s : State) (k : Held) → Same s.held k → Leaves s k
same_leaves s k same = record {
  objects = λ n low there. same.objects n;
  programs = λ n low. adopts_same (object s.held n) (object k n) (same.objects n);
  owners = λ n o e. same_user (object s.held o.owner.0) (object k o.owner.0) (same.objects o.owner.0);
  users = λ p live. same_user (object s.held (user_of s p)) (object k (user_of s p)) (same.objects (user_of s p));
}

-- ---- an object is another one

there_mapped : (f : Object → Object) (x : Option Object) → is_some (option_map f x) ≡ is_some x
there_mapped f None = refl
there_mapped f (Some x) = refl

mapped_owner : (f : Object → Object) (x : Option Object) (next : ℕ) (o : Object) → ((p : Object) → x ≡ Some p → (f p).owner.0 < next) → option_map f x ≡ Some o → o.owner.0 < next
mapped_owner f None next o each e = cc
mapped_owner f (Some x) next o each e = subst (λ (z : Option Object). IsOwnedIn next z) e (each x refl)
  where
    IsOwnedIn : ℕ → Option Object → Type 0
    IsOwnedIn next None = Unit {0}
    IsOwnedIn next (Some z) = z.owner.0 < next

pub changed_owned : (h : Held) (n : ℕ) (f : Object → Object) → KeepsNumber f → ((o : Object) → object h n ≡ Some o → (f o).owner.0 < h.next) → AreOwned h → AreOwned (change h n f)
changed_owned h n f number each owned = record {
  numbers = λ m there. owned.numbers m (sym (kept_there m) ∙ there);
  owners = λ m o e. by m o (n == m) refl (sym (object_changed n m f h.objects number) ∙ e);
}
  where
    kept_there : (m : ℕ) → is_there (change h n f) m ≡ is_there h m
    kept_there m = ap is_some (object_changed n m f h.objects number)
        ∙ cond_both (n == m) (option_map f (object h m)) (object h m) (λ x. is_some x ≡ is_some (object h m)) (λ e. there_mapped f (object h m)) (λ e. refl)

    by : (m : ℕ) (o : Object) (b : Bool) → (n == m) ≡ b → cond b (option_map f (object h m)) (object h m) ≡ Some o → o.owner.0 < h.next
    by m o true same e = mapped_owner f (object h m) h.next o (λ p is. each p (ap (object h) (nat_same n m same) ∙ is)) e
    by m o false other e = owned.owners m o e

pub standing_owned : (h : Held) (n : ℕ) (f : Access → Access) → ((o : Object) → object h n ≡ Some o → (f (access_of o)).owner.0 < h.next) → AreOwned h → AreOwned (on_access h n f)
standing_owned h n f each owned = changed_owned h n (λ o. with_access (f (access_of o)) o) (λ o. refl) each owned

pub profiled_owned : (h : Held) (n : ℕ) (special : Special) (limit : ℕ) → AreOwned h → AreOwned (change h n (over_object profile_part (λ _. (special, limit))))
profiled_owned h n special limit owned = changed_owned h n (over_object profile_part (λ _. (special, limit))) (λ o. refl) (λ o e. owned.owners n o e) owned

-- ---- an object is new

new_there : (h : Held) (o : Object) (m : ℕ) → object (with_object h o) m ≡ option_or (object h m) (cond (has_number m o) (Some o) None)
new_there h o m = find-append (has_number m) h.objects (o ∷ [])

-- a number that was given is that of no new object
pub old_there : (h : Held) (owner : ℕ) (made : Creating) (id : Id) (body : Body) (m : ℕ) → m < h.next → object (with_object h (new_object h owner made id body)) m ≡ object h m
old_there h owner made id body m low =
    let off : (h.next == m) ≡ false = grind (arith, nat_tests) in
    new_there h (new_object h owner made id body) m ∙ ap (λ b. option_or (object h m) (cond b (Some (new_object h owner made id body)) None)) off ∙ or_none (object h m)
  where
    or_none : (x : Option Object) → option_or x None ≡ x
    or_none None = refl
    or_none (Some x) = refl

with_owned : (h : Held) (owner : ℕ) (made : Creating) (id : Id) (body : Body) → owner < h.next → AreOwned h → AreOwned (with_object h (new_object h owner made id body))
with_owned h owner made id body low owned = record {
  numbers = λ m there. number m (object h m) refl (has_number m new) refl (sym (ap is_some (new_there h new m)) ∙ there);
  owners = λ m o e. owner_by m o (object h m) refl (has_number m new) (sym (new_there h new m) ∙ e);
}
  where
    new : Object
    new = new_object h owner made id body

    number : (m : ℕ) (x : Option Object) → object h m ≡ x → (b : Bool) → has_number m new ≡ b → is_some (option_or x (cond b (Some new) None)) ≡ true → m < h.next + 1
    number m (Some x) is b e there = omega (arith, owned.numbers m (ap is_some is))
    number m None is true e there = omega (arith, nat_same h.next m e)
    number m None is false e there = cc

    owner_by : (m : ℕ) (o : Object) (x : Option Object) → object h m ≡ x → (b : Bool) → option_or x (cond b (Some new) None) ≡ Some o → o.owner.0 < h.next + 1
    owner_by m o (Some x) is b e = omega (arith, owned.owners m o (is ∙ e))
    owner_by m o None is true e = subst (λ (z : Option Object). IsOwnedIn (h.next + 1) z) e (omega (arith, low))
      where
        IsOwnedIn : ℕ → Option Object → Type 0
        IsOwnedIn next None = Unit {0}
        IsOwnedIn next (Some z) = z.owner.0 < next
    owner_by m o None is false e = cc

-- a new object leaves what rights rest on
new_leaves : (s : State) (k : Held) → ((m : ℕ) → m < s.held.next → object k m ≡ object s.held m) → AreOwned s.held → ((p : ℕ) → is_live s p ≡ true → user_of s p < s.held.next) → Leaves s k
new_leaves s k old owned users = record {
  objects = λ n low there. subst (IsSame (object s.held n)) (sym (old n low)) (same_bears (object s.held n));
  programs = λ n low. adopts_same (object s.held n) (object k n) (subst (IsSame (object s.held n)) (sym (old n low)) (same_bears (object s.held n)));
  owners = λ n o e. same_user (object s.held o.owner.0) (object k o.owner.0)
      (subst (IsSame (object s.held o.owner.0)) (sym (old o.owner.0 (owned.owners n o e))) (same_bears (object s.held o.owner.0)));
  users = λ p live. same_user (object s.held (user_of s p)) (object k (user_of s p))
      (subst (IsSame (object s.held (user_of s p))) (sym (old (user_of s p) (users p live))) (same_bears (object s.held (user_of s p))));
}

-- what a change of objects leaves, and that numbers were given then
pub record IsFollowing (s : State) (k : Held) : Type 0 where
  pub next : s.held.next ≤ k.next
  pub owned : AreOwned k
  pub leaves : Leaves s k

pub same_following : (s : State) (k : Held) → Same s.held k → AreOwned s.held → IsFollowing s k
same_following s k same owned = record { next = omega (arith, same.next); owned = same_owned s.held k same owned; leaves = same_leaves s k same }

pub created_following : (s : State) (owner : ℕ) (made : Creating) (body : Body) → owner < s.held.next → AreOwned s.held → ((p : ℕ) → is_live s p ≡ true → user_of s p < s.held.next)
    → IsFollowing s (creation_changes s.held owner made body)
unfolding creation_changes
created_following s owner made body low owned users = by made.id
  where
    by : (id : Option Id) → IsFollowing s (created s.held owner made body id)
    by None = record { next = omega arith; owned = owned; leaves = new_leaves s s.held (λ m less. refl) owned users }
    by (Some id) = record {
      next = omega arith;
      owned = with_owned s.held owner made id body low owned;
      leaves = new_leaves s (with_object s.held (new_object s.held owner made id body)) (old_there s.held owner made id body) owned users;
    }

-- ---- an object is gone

gone_owned : (h : Held) (n : ℕ) → AreOwned h → AreOwned (without h n)
gone_owned h n owned = record {
  numbers = λ m there. number m (n == m) (sym (ap is_some (object_without n m h.objects)) ∙ there);
  owners = λ m o e. owner_by m o (n == m) (sym (object_without n m h.objects) ∙ e);
}
  where
    number : (m : ℕ) (b : Bool) → is_some (cond b None (object h m)) ≡ true → m < h.next
    number m true there = cc
    number m false there = owned.numbers m there

    owner_by : (m : ℕ) (o : Object) (b : Bool) → cond b None (object h m) ≡ Some o → o.owner.0 < h.next
    owner_by m o true e = cc
    owner_by m o false e = owned.owners m o e

pub destroyed_owned : (h : Held) (kind : Kind) (n : ℕ) → AreOwned h → AreOwned (destroyed h kind n)
destroyed_owned h kind n owned = cond_both (is_of_kind kind (object h n)) (without h n) h AreOwned (λ is. gone_owned h n owned) (λ other. owned)

pub destroyed_next : (h : Held) (kind : Kind) (n : ℕ) → (destroyed h kind n).next ≡ h.next
destroyed_next h kind n = cond_both (is_of_kind kind (object h n)) (without h n) h (λ (k : Held). k.next ≡ h.next) (λ is. refl) (λ other. refl)

-- one that is no program brings nobody
no_program : (kind : Kind) (x : Option Object) → same_kind kind kinds.Program ≡ false → is_of_kind kind x ≡ true → AdoptsSo x None
no_program kind None other is last = refl
no_program kind (Some x) other is last = by x.body is
  where
    by : (b : Body) → same_kind kind (kind_of b) ≡ true → None ≡ adoption_of last (header_in (Some (record x { body = b })))
    by (bodies.Program program) is = absurd (true≢false (sym is ∙ other))
    by _ is = refl

-- one that is no user brings nothing
no_user : (x : Option Object) → is_profile_in x ≡ false → IsSameUser x None
no_user None other = record { special = refl; counted = λ r. refl }
no_user (Some x) other = by x.body other
  where
    by : (b : Body) → is_profile b ≡ false → IsSameUser (Some (record x { body = b })) None
    by (bodies.Profile special limit) other = cc
    by _ other = record { special = refl; counted = λ r. refl }

profile_kind : (kind : Kind) (x : Option Object) → is_of_kind kind x ≡ true → is_profile_in x ≡ true → same_kind kind kinds.Profile ≡ true
profile_kind kind None is user = cc
profile_kind kind (Some x) is user = by x.body is user
  where
    by : (b : Body) → same_kind kind (kind_of b) ≡ true → is_profile b ≡ true → same_kind kind kinds.Profile ≡ true
    by (bodies.Profile special limit) is user = is
    by _ is user = cc

or_none : (a b : Bool) → (a || b) ≡ false → (a ≡ false) × (b ≡ false)
or_none true b e = cc
or_none false b e = (refl, e)

or_some : (a b : Bool) → b ≡ true → (a || b) ≡ true
or_some true b e = refl
or_some false b e = e

-- who owns an object is an owner
owns_it : (os : List Object) (n m : ℕ) (o : Object) → object_in os m ≡ Some o → (o.owner.0 == n) ≡ true → list_any (owns n) os ≡ true
owns_it [] n m o e owner = cc
owns_it (x ∷ os) n m o e owner = by (λ (g : object_in os m ≡ Some o). owns_it os n m o g owner) (has_number m x) e
  where
    owned_in : ℕ → Option Object → Bool
    owned_in n None = false
    owned_in n (Some z) = owns n z

    first : (b : Bool) → owns n x ≡ b → b ≡ true → (owns n x || list_any (owns n) os) ≡ true
    first true e g = rw e refl
    first false e g = cc

    by : (object_in os m ≡ Some o → list_any (owns n) os ≡ true) → (b : Bool) → cond b (Some x) (object_in os m) ≡ Some o → (owns n x || list_any (owns n) os) ≡ true
    by more true e = first (owns n x) refl (ap (owned_in n) e ∙ owner)
    by more false e = or_some (owns n x) (list_any (owns n) os) (more e)

-- whose process lives is needed
lives_it : (xs : List ProcessEntry) (n k : ℕ) → is_live_in (slice_get xs k) ≡ true → (user_in (started_in (slice_get xs k)) == n) ≡ true → list_any (is_live_for n) xs ≡ true
lives_it [] n k live user = cc
lives_it (x ∷ xs) n zero live user = first (is_live_for n x) refl (by x.started x.ended live user)
  where
    by : (p : Option Started) (ended : Bool) → (is_some p && not ended) ≡ true → (user_in p == n) ≡ true → (not ended && is_user n p) ≡ true
    by None ended live user = cc
    by (Some p) true live user = cc
    by (Some p) false live user = user

    first : (b : Bool) → is_live_for n x ≡ b → b ≡ true → (is_live_for n x || list_any (is_live_for n) xs) ≡ true
    first true e g = rw e refl
    first false e g = cc
lives_it (x ∷ xs) n (suc k) live user = or_some (is_live_for n x) (list_any (is_live_for n) xs) (lives_it xs n k live user)

both_true : (a b : Bool) → a ≡ true → b ≡ true → (a && b) ≡ true
both_true true b e g = g
both_true false b e g = cc

-- a user that is not needed owns nothing and has no live process
pub gone_leaves : (s : State) (kind : Kind) (n : ℕ) → same_kind kind kinds.Program ≡ false → is_of_kind kind (object s.held n) ≡ true → (same_kind kind kinds.Profile ≡ true → is_needed s n ≡ false)
    → Leaves s (without s.held n)
gone_leaves s kind n other is unneeded = record {
  objects = λ m low there. object_by m (n == m) (sym (ap is_some (object_without n m s.held.objects)) ∙ there) (object_without n m s.held.objects);
  programs = λ m low. subst (AdoptsSo (object s.held m)) (sym (object_without n m s.held.objects)) (program_by m (n == m) refl);
  owners = λ m o e. subst (IsSameUser (object s.held o.owner.0)) (sym (object_without n o.owner.0 s.held.objects))
      (user_by o.owner.0 (n == o.owner.0) refl (λ same user. owner_free m o e same user));
  users = λ p live. subst (IsSameUser (object s.held (user_of s p))) (sym (object_without n (user_of s p) s.held.objects))
      (user_by (user_of s p) (n == user_of s p) refl (λ same user. live_free p live same user));
}
  where
    object_by : (m : ℕ) (b : Bool) → is_some (cond b None (object s.held m)) ≡ true → object (without s.held n) m ≡ cond b None (object s.held m) → IsSame (object s.held m) (object (without s.held n) m)
    object_by m true there e = cc
    object_by m false there e = subst (IsSame (object s.held m)) (sym e) (same_bears (object s.held m))

    program_by : (m : ℕ) (b : Bool) → (n == m) ≡ b → AdoptsSo (object s.held m) (cond b None (object s.held m))
    program_by m true same = no_program kind (object s.held m) other (subst (λ (k : ℕ). is_of_kind kind (object s.held k) ≡ true) (nat_same n m same) is)
    program_by m false same = λ last. refl

    free : is_profile_in (object s.held n) ≡ true → (is_owner s.held n ≡ false) × (list_any (is_live_for n) s.processes ≡ false)
    free user =
        let parts = or_none (n == officer) (is_owner s.held n || list_any (is_live_for n) s.processes) (unneeded (profile_kind kind (object s.held n) is user)) in
        or_none (is_owner s.held n) (list_any (is_live_for n) s.processes) parts.1

    owner_free : (m : ℕ) (o : Object) → object s.held m ≡ Some o → (n == o.owner.0) ≡ true → is_profile_in (object s.held n) ≡ true → ⊥
    owner_free m o e same user =
        let owner : (o.owner.0 == n) ≡ true = grind (arith, nat_tests, same) in
        true≢false (sym (both_true (is_profile_in (object s.held n)) (list_any (owns n) s.held.objects) user (owns_it s.held.objects n m o e owner)) ∙ (free user).0)

    live_free : (p : ℕ) → is_live s p ≡ true → (n == user_of s p) ≡ true → is_profile_in (object s.held n) ≡ true → ⊥
    live_free p live same user =
        let own : (user_of s p == n) ≡ true = grind (arith, nat_tests, same) in
        true≢false (sym (lives_it s.processes n (p - 1) live own) ∙ (free user).1)

    profile_by : (u : ℕ) (b : Bool) → is_profile_in (object s.held n) ≡ b → (n == u) ≡ true → (is_profile_in (object s.held n) ≡ true → ⊥) → IsSameUser (object s.held u) None
    profile_by u true e same none = absurd (none e)
    profile_by u false e same none = no_user (object s.held u) (subst (λ (k : ℕ). is_profile_in (object s.held k) ≡ false) (nat_same n u same) e)

    user_by : (u : ℕ) (b : Bool) → (n == u) ≡ b → ((n == u) ≡ true → is_profile_in (object s.held n) ≡ true → ⊥) → IsSameUser (object s.held u) (cond b None (object s.held u))
    user_by u true same none = profile_by u (is_profile_in (object s.held n)) refl same (none same)
    user_by u false same none = same_user (object s.held u) (object s.held u) (same_bears (object s.held u))

pub destroyed_following : (s : State) (kind : Kind) (n : ℕ) → same_kind kind kinds.Program ≡ false → (same_kind kind kinds.Profile ≡ true → is_needed s n ≡ false) → AreOwned s.held
    → IsFollowing s (destroyed s.held kind n)
destroyed_following s kind n other unneeded owned =
    cond_both (is_of_kind kind (object s.held n)) (without s.held n) s.held (IsFollowing s)
    (λ is. record { next = omega arith; owned = gone_owned s.held n owned; leaves = gone_leaves s kind n other is unneeded })
    (λ stays. same_following s s.held (record { next = refl; objects = λ m. same_bears (object s.held m) }) owned)
