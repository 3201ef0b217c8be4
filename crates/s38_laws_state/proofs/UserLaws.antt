-- The user of a process that starts, and the users of processes after an effect.
use Rattle.std.proofs.Common.{◌-◌, ◌==◌, ◌∙◌, ◌≡◌, ◌≢◌, ◌&&◌, Bool, List, [], ap, arith, cond, false, refl, subst, sym, true, ℕ}
use Rattle.std.proofs.lemmas.Bool.Decides.{nat_tests}
use Rattle.std.proofs.lemmas.Option.{slice_get-map}
use Rattle.std.specs.Option.{option_map, unwrap_or}
use Rattle.std.specs.Prelude.{All, None, Option, Some, slice_get, slice_set}
use Rattle.s38_base.specs.Ids.{same_id, same_kind}
use Rattle.s38_base.specs.Limits.{machine_context}
use Rattle.s38_base.specs.declared.exception.Exception.{Exception}
use Rattle.s38_base.specs.declared.id.Id.{Id}
use Rattle.s38_base.specs.declared.id.Kind.TheVariants as kinds
use Rattle.s38_base.specs.declared.id.ObjNum.{ObjNum}
use Rattle.s38_laws_objects.specs.Well.{AreWell, IsWell}
use Rattle.s38_laws_images.specs.openings.Fitting.{IsUser}
use Rattle.s38_rules.proofs.Laws.{all_decommitted_keeps as decommitted_processes}
use Rattle.s38_rules.proofs.RuleLaws.{first_none}
use Rattle.s38_rules.specs.families.Creation.{is_of_kind}
use Rattle.s38_rules.specs.step.Effect.{end_at, in_machine, start_at, started_as}
use Rattle.s38_rules.specs.state.Held.{Held, found_in, is_in_context, is_there, number_found, number_in, object}
use Rattle.s38_rules.specs.families.Instruction.{AreKept, unstacked}
use Rattle.s38_rules.specs.state.Invocations.{restacked}
use Rattle.s38_rules.specs.state.State.{State, is_early, process_entry}
use Rattle.s38_rules.specs.families.Units.{all_decommitted}
use Rattle.s38_rules.specs.step.Verdict.{absent, of_failure, profile_id, start_failure, start_verdict}
use Rattle.s38_rules.specs.declared.object.Object.{Object}
use Rattle.s38_rules.specs.declared.process.ProcessEntry.{ProcessEntry}
use Rattle.s38_rules.specs.declared.process.Started.{Started}
use Rattle.s38_rules.specs.declared.verdict.Verdict.TheVariants.{Permit, Wait}
use Rattle.s38_laws_state.proofs.FitTogetherLaws.{Fits}
use Rattle.s38_laws_state.proofs.HeadLaws.{found_object, same_kinds}
use Rattle.s38_laws_state.proofs.FitRowLaws.{FitsIn, IsUsed}
use Rattle.s38_laws_state.proofs.SeenLaws.{found_all}
use Rattle.s38_laws_state.proofs.StatusLaws.{set_here, set_other}

pub some_same : {A : Type 0} (x y : A) → Some x ≡ Some y → x ≡ y
some_same x y h = cc

both_second : (a b : Bool) → (a && b) ≡ true → b ≡ true
both_second true b h = h
both_second false b h = cc

both_first : (a b : Bool) → (a && b) ≡ true → a ≡ true
both_first true b h = refl
both_first false b h = cc

same_ids : (a b : Id) → same_id a b ≡ true → same_kind a.kind b.kind ≡ true
unfolding same_id
same_ids a b h = both_first (same_kind a.kind b.kind) _ h

-- what is found in the machine context as a profile is one
profile_found : (U : ℕ → Type 0) (h : Held) (name : List ℕ) → Fits U h → All IsWell h.objects → absent (number_found h machine_context (profile_id name)) 1 ≡ None → IsUser h (in_machine h (profile_id name)).0
profile_found U h name fits well met = by (is_there h machine_context) (found_in h.objects machine_context (profile_id name)) refl met
  where
    user : (o : Object) → found_in h.objects machine_context (profile_id name) ≡ Some o → is_of_kind kinds.Profile (object h o.number.0) ≡ true
    user o named =
        let known = found_object h.next h.objects machine_context (profile_id name) o fits.rise named in
        let said : same_kind o.id.kind kinds.Profile ≡ true = same_ids o.id (profile_id name) (both_second (is_in_context machine_context o) (same_id o.id (profile_id name)) known.1) in
        let kind = (found_all IsWell h.objects o.number.0 o well known.0).storable.kind in
        ap (is_of_kind kinds.Profile) known.0 ∙ ap (same_kind kinds.Profile) (kind ∙ sym (same_kinds o.id.kind kinds.Profile said))

    by : (b : Bool) (r : Option Object) → found_in h.objects machine_context (profile_id name) ≡ r → absent (number_in (cond b r None)) 1 ≡ None
        → is_of_kind kinds.Profile (object h (unwrap_or (number_in (cond b r None)) (record { 0 = 0 })).0) ≡ true
    by true (Some o) named g = user o named
    by true None named g = cc
    by false r named g = cc

pub started_user : (s : State) (p : ℕ) (x : ProcessEntry) → FitsIn s s.held → AreWell s → start_verdict s p (Some x) ≡ Permit → IsUser s.held (started_as s.held x.job).user.0
unfolding start_failure
started_user s p x fits well may = profile_found (IsUsed s.processes) s.held x.job.user fits well.objects (first_none _ _ (by (is_early s.processes x.job.stage) may)).0
  where
    none_of : (o : Option Exception) → of_failure o ≡ Permit → o ≡ None
    none_of None h = refl
    none_of (Some y) h = cc

    by : (b : Bool) → cond b Wait (of_failure (start_failure s.held x.job)) ≡ Permit → start_failure s.held x.job ≡ None
    by true h = cc
    by false h = none_of (start_failure s.held x.job) h

-- the process at a place of a list with one new entry
set_cases : (P : Type 0) (xs : List ProcessEntry) (k j : ℕ) (x y z : ProcessEntry) → slice_get xs k ≡ Some x → slice_get (slice_set xs k y) j ≡ Some z → (z ≡ y → P) → (slice_get xs j ≡ Some z → P) → P
set_cases P xs k j x y z at to here there = by (j == k) refl
  where
    same : (j == k) ≡ true → j ≡ k
    same h = grind (arith, nat_tests)

    off : (j == k) ≡ false → j ≢ k
    off h e = absurd (grind (arith, nat_tests))

    by : (b : Bool) → (j == k) ≡ b → P
    by true is = here (some_same z y (sym to ∙ ap (slice_get (slice_set xs k y)) (same is) ∙ set_here xs k x y at))
    by false is = there (sym (set_other xs k j y (off is)) ∙ to)

-- an instruction leaves the users of its state's processes
restacked_user : (x y : ProcessEntry) (q : Started) → unstacked y ≡ unstacked x → y.started ≡ Some q → (r : Started) × (x.started ≡ Some r) × (r.user ≡ q.user)
restacked_user x y q same of = by x.started (ap (λ (z : ProcessEntry). z.started) (sym same) ∙ ap (restacked (λ frames. [])) of)
  where
    by : (o : Option Started) → restacked (λ frames. []) o ≡ Some (record q { stack = [] }) → (r : Started) × (o ≡ Some r) × (r.user ≡ q.user)
    by None h = cc
    by (Some r) h = (r, refl, ap (λ (z : Started). z.user) (some_same _ _ h))

pub kept_used : (p : ℕ) (xs ys : List ProcessEntry) (u : ℕ) → AreKept p xs ys → IsUsed ys u → IsUsed xs u
kept_used p xs ys u kept used = by (slice_get xs used.at) refl
  where
    behind : option_map unstacked (slice_get xs used.at) ≡ Some (unstacked used.process)
    behind =
        sym (slice_get-map unstacked xs used.at) ∙ ap (λ (l : List ProcessEntry). slice_get l used.at) (sym kept.stays) ∙ slice_get-map unstacked ys used.at
        ∙ ap (option_map unstacked) used.there

    by : (r : Option ProcessEntry) → slice_get xs used.at ≡ r → IsUsed xs u
    by None at = absurd (none (sym (ap (option_map unstacked) at) ∙ behind))
      where
        none : None ≡ Some (unstacked used.process) → ⊥
        none g = cc
    by (Some x) at =
        let same : unstacked used.process ≡ unstacked x = some_same _ _ (sym behind ∙ ap (option_map unstacked) at) in
        let one = restacked_user x used.process used.started same used.of in
        record {
          at = used.at;
          process = x;
          started = one.0;
          there = at;
          of = one.1;
          going = ap (λ (z : ProcessEntry). z.ended) (sym same) ∙ used.going;
          is = ap (λ (n : ObjNum). n.0) one.2 ∙ used.is;
        }

-- a start brings a user who is there, and an end brings none
pub start_used : (s : State) (p : ℕ) (o : Option ProcessEntry) (u : ℕ) → process_entry s p ≡ o → ((x : ProcessEntry) → o ≡ Some x → IsUser s.held (started_as s.held x.job).user.0) → FitsIn s s.held → IsUsed (start_at s p o).processes u → IsUser s.held u
start_used s p None u at user fits used = fits.users u used
start_used s p (Some x) u at user fits used =
    set_cases (IsUser s.held u) s.processes (p - 1) used.at x _ used.process at used.there
    (λ same. subst (λ (n : ℕ). IsUser s.held n) (by (ap (λ (z : ProcessEntry). z.started) (sym same) ∙ used.of) ∙ used.is) (user x refl))
    (λ there. fits.users u (record { at = used.at; process = used.process; started = used.started; there = there; of = used.of; going = used.going; is = used.is }))
  where
    by : Some (started_as s.held x.job) ≡ Some used.started → (started_as s.held x.job).user.0 ≡ used.started.user.0
    by h = ap (λ (z : Started). z.user.0) (some_same _ _ h)

pub end_used : (s : State) (p : ℕ) (o : Option ProcessEntry) (u : ℕ) → process_entry s p ≡ o → IsUsed (end_at s p o).processes u → IsUsed s.processes u
end_used s p None u at used = used
end_used s p (Some x) u at used =
    set_cases (IsUsed s.processes u) (all_decommitted s p s.units).processes (p - 1) used.at x _ used.process (ap (λ (l : List ProcessEntry). slice_get l (p - 1)) (decommitted_processes s.units s p) ∙ at) used.there
    (λ same. absurd (ended (sym (ap (λ (z : ProcessEntry). z.ended) same) ∙ used.going)))
    (λ there. record {
      at = used.at;
      process = used.process;
      started = used.started;
      there = sym (ap (λ (l : List ProcessEntry). slice_get l used.at) (decommitted_processes s.units s p)) ∙ there;
      of = used.of;
      going = used.going;
      is = used.is;
    })
  where
    ended : true ≡ false → ⊥
    ended g = cc
