-- The sections of a session, step by step.
use Rattle.std.proofs.Common.{◌≡◌, ℕ, zero, suc, ◌+◌, ◌<◌, ◌≤◌, ◌==◌, false, List, [], ◌∷◌, ◌++◌, refl, ap, sym, ◌∙◌, subst, arith, append-nil, append_assoc, ne_eqb}
use Rattle.std.specs.Prelude.{filter, take}
use Rattle.std.proofs.lemmas.Option.{same_Some}
use Rattle.std.proofs.lemmas.List.Elements.{filter-append}
use Rattle.pot_index.specs.Entries as index
use Rattle.pot_machine.specs.Logs.{job_of, own}
use Rattle.pot_replies.specs.Sections.{Section, MovesThenRest, IsAmong, IsOfJobs, FollowsSection}
use Rattle.pot_replies.specs.Sessions.{Step, jobs_in, jobs_of, AreSections, Answered, Answers}
use Rattle.pot_replies.specs.SessionLaws.{OwnInSections, RepliedNone, RepliedMore}

-- WHOSE ENTRIES STAND IN A SECTION

module _ {X : Type 0} (job_in : X → ℕ) where
  -- where each entry is of one of some jobs, no other job has one
  none_of : (from n j : ℕ) → (IsAmong from n j → ⊥) → (xs : List X) → ((x y : List X) (e : X) → xs ≡ x ++ e ∷ y → IsAmong from n (job_in e)) → filter (λ e. job_in e == j) xs ≡ []
  none_of from n j other [] all = refl
  none_of from n j other (e ∷ es) all =
      let differs : (job_in e == j) ≡ false = ne_eqb (job_in e) j (λ same. other (subst (IsAmong from n) same (all [] es e refl))) in
      rw differs (none_of from n j other es (λ x y f at. all (e ∷ x) y f (ap (λ l. e ∷ l) at)))

  two_parts : (j : ℕ) (xs ys whole : List X) → whole ≡ xs ++ ys → filter (λ e. job_in e == j) whole ≡ filter (λ e. job_in e == j) xs ++ filter (λ e. job_in e == j) ys
  two_parts j xs ys whole is = ap (filter (λ e. job_in e == j)) is ∙ filter-append (λ e. job_in e == j) xs ys

-- three parts in a row
three : {X : Type 0} (whole sofar one two rest : List X) → whole ≡ sofar ++ one → sofar ≡ two ++ rest → whole ≡ two ++ (rest ++ one)
three whole sofar one two rest is parts = is ∙ (ap (λ l. l ++ one) parts ∙ append_assoc two rest one)

module _ {Line : Type 0} where
  -- sections of later jobs have no entry of an earlier one
  later_none : (job : ℕ) (steps : List (Step Line)) (ones : List Section) (w : Section) → AreSections job steps ones w → (j : ℕ) → j < job
      → ((g : ℕ) → own j (w.added g) ≡ []) × (index.own j w.index_added ≡ [])
  later_none job [] [] w are j lt = (λ g. ap (own j) (are.0 g), ap (index.own j) are.1)
  later_none job [] (one ∷ ones) w are j lt = absurd are
  later_none job (c ∷ cs) [] w are j lt = absurd are
  later_none job (c ∷ cs) (one ∷ ones) w (rest, follows, of, more) j lt =
      let other : IsAmong job (jobs_in c) j → ⊥ = λ is. (let low = is.0 in omega (arith, low, lt)) in
      let behind = later_none (job + jobs_in c) cs ones rest more j (omega (arith, lt)) in (
        λ g. two_parts job_of j (one.added g) (rest.added g) _ (follows.is_added g)
            ∙ (ap (λ l. l ++ own j (rest.added g)) (none_of job_of job (jobs_in c) j other (one.added g) (of.groups g)) ∙ behind.0 g),
        two_parts (λ x. index.job_in x.entry) j one.index_added rest.index_added _ follows.index_is_added
            ∙ (ap (λ l. l ++ index.own j rest.index_added) (none_of (λ x. index.job_in x.entry) job (jobs_in c) j other one.index_added of.index) ∙ behind.1),
      )

  pub own_in_sections : OwnInSections Line
  own_in_sections job [] [] w are k c one there here j among = absurd (cc there)
  own_in_sections job [] (d ∷ ds) w are k c one there here j among = absurd are
  own_in_sections job (d ∷ ds) [] w are k c one there here j among = absurd are
  own_in_sections job (d ∷ ds) (two ∷ twos) w (rest, follows, of, more) zero c one there here j among =
      let step : d ≡ c = same_Some d c there in
      let its : two ≡ one = same_Some two one here in
      let high : j < job + jobs_in d = (let up = among.1 in let same = ap jobs_in step in omega (arith, up, same)) in
      let behind = later_none (job + jobs_in d) ds twos rest more j high in
      subst (λ (x : Section). ((g : ℕ) → own j (w.added g) ≡ own j (x.added g)) × (index.own j w.index_added ≡ index.own j x.index_added)) its (
        λ g. two_parts job_of j (two.added g) (rest.added g) _ (follows.is_added g) ∙ (ap (λ l. own j (two.added g) ++ l) (behind.0 g) ∙ append-nil (own j (two.added g))),
        two_parts (λ x. index.job_in x.entry) j two.index_added rest.index_added _ follows.index_is_added
            ∙ (ap (λ l. index.own j two.index_added ++ l) behind.1 ∙ append-nil (index.own j two.index_added)),
      )
  own_in_sections job (d ∷ ds) (two ∷ twos) w (rest, follows, of, more) (suc k) c one there here j among =
      let low : job + (jobs_in d + jobs_of (take k ds)) ≤ j = among.0 in
      let high : j < (job + (jobs_in d + jobs_of (take k ds))) + jobs_in c = among.1 in
      let other : IsAmong job (jobs_in d) j → ⊥ = λ is. (let up = is.1 in omega (arith, up, low)) in
      let later = own_in_sections (job + jobs_in d) ds twos rest more k c one there here j (omega (arith, low), omega (arith, high)) in (
        λ g. two_parts job_of j (two.added g) (rest.added g) _ (follows.is_added g)
            ∙ (ap (λ l. l ++ own j (rest.added g)) (none_of job_of job (jobs_in d) j other (two.added g) (of.groups g)) ∙ later.0 g),
        two_parts (λ x. index.job_in x.entry) j two.index_added rest.index_added _ follows.index_is_added
            ∙ (ap (λ l. l ++ index.own j rest.index_added) (none_of (λ x. index.job_in x.entry) job (jobs_in d) j other two.index_added of.index) ∙ later.1),
      )

  -- ONE STEP MORE

  sections_more : (job : ℕ) (steps : List (Step Line)) (ones : List Section) (c : Step Line) (sofar one whole : Section) → AreSections job steps ones sofar
      → FollowsSection sofar one whole → IsOfJobs (job + jobs_of steps) (jobs_in c) one → AreSections job (steps ++ c ∷ []) (ones ++ one ∷ []) whole
  sections_more job [] [] c sofar one whole are follows of =
      let rest : Section = record { before = λ g. whole.before g ++ one.added g; added = λ g. []; index_before = whole.index_before ++ one.index_added; index_added = [] } in
      let same : job + 0 ≡ job = omega arith in (
        rest,
        record {
          begins = λ g. follows.goes_on g ∙ (ap (λ l. whole.before g ++ l) (are.0 g) ∙ append-nil (whole.before g));
          is_added = λ g. follows.is_added g ∙ (ap (λ l. l ++ one.added g) (are.0 g) ∙ sym (append-nil (one.added g)));
          goes_on = λ g. refl;
          index_begins = follows.index_goes_on ∙ (ap (λ l. whole.index_before ++ l) are.1 ∙ append-nil whole.index_before);
          index_is_added = follows.index_is_added ∙ (ap (λ l. l ++ one.index_added) are.1 ∙ sym (append-nil one.index_added));
          index_goes_on = refl;
        },
        subst (λ n. IsOfJobs n (jobs_in c) one) same of,
        (λ g. refl, refl),
      )
  sections_more job [] (two ∷ twos) c sofar one whole are follows of = absurd are
  sections_more job (d ∷ ds) [] c sofar one whole are follows of = absurd are
  sections_more job (d ∷ ds) (two ∷ twos) c sofar one whole (rest, first, its, more) follows of =
      let behind : Section = record {
        before = λ g. whole.before g ++ two.added g;
        added = λ g. rest.added g ++ one.added g;
        index_before = whole.index_before ++ two.index_added;
        index_added = rest.index_added ++ one.index_added;
      } in
      let number : job + (jobs_in d + jobs_of ds) ≡ (job + jobs_in d) + jobs_of ds = omega arith in (
        behind,
        record {
          begins = λ g. first.begins g ∙ follows.begins g;
          is_added = λ g. three (whole.added g) (sofar.added g) (one.added g) (two.added g) (rest.added g) (follows.is_added g) (first.is_added g);
          goes_on = λ g. refl;
          index_begins = first.index_begins ∙ follows.index_begins;
          index_is_added = three whole.index_added sofar.index_added one.index_added two.index_added rest.index_added follows.index_is_added first.index_is_added;
          index_goes_on = refl;
        },
        its,
        sections_more (job + jobs_in d) ds twos c rest one behind more
            (record {
              begins = λ g. first.goes_on g ∙ ap (λ l. l ++ two.added g) (follows.begins g);
              is_added = λ g. refl;
              goes_on = λ g. follows.goes_on g ∙ (ap (λ l. whole.before g ++ l) (first.is_added g) ∙ sym (append_assoc (whole.before g) (two.added g) (rest.added g)));
              index_begins = first.index_goes_on ∙ ap (λ l. l ++ two.index_added) follows.index_begins;
              index_is_added = refl;
              index_goes_on = follows.index_goes_on ∙ (ap (λ l. whole.index_before ++ l) first.index_is_added ∙ sym (append_assoc whole.index_before two.index_added rest.index_added));
            })
            (subst (λ n. IsOfJobs n (jobs_in c) one) number of),
      )

module _ {Line Reply : Type 0} (Row : ℕ → Line → List Reply → (w : Section) → MovesThenRest w → Type 0) where
  answers_more : (job : ℕ) (steps : List (Step Line)) (ones : List Section) (rs : List Reply) (c : Step Line) (now : List Reply) (one : Section) (h : MovesThenRest one)
      → Answers Row job steps ones rs → Answered Row (job + jobs_of steps) c now one h → Answers Row job (steps ++ c ∷ []) (ones ++ one ∷ []) (rs ++ now)
  answers_more job [] [] rs c now one h none answered =
      let same : job + 0 ≡ job = omega arith in
      (h, now, [], ap (λ l. l ++ now) none ∙ sym (append-nil now), subst (λ n. Answered Row n c now one h) same answered, refl)
  answers_more job [] (two ∷ twos) rs c now one h none answered = absurd none
  answers_more job (d ∷ ds) [] rs c now one h none answered = absurd none
  answers_more job (d ∷ ds) (two ∷ twos) rs c now one h (its, first, more, is, answer, rest) answered =
      let number : job + (jobs_in d + jobs_of ds) ≡ (job + jobs_in d) + jobs_of ds = omega arith in (
        its,
        first,
        more ++ now,
        ap (λ l. l ++ now) is ∙ append_assoc first more now,
        answer,
        answers_more (job + jobs_in d) ds twos more c now one h rest (subst (λ n. Answered Row n c now one h) number answered),
      )

  pub replied_none : RepliedNone Row
  replied_none job w empty = record { ones = []; are = empty; answers = refl }

  pub replied_more : RepliedMore Row
  replied_more job steps rs c now sofar one whole h replied follows of answered = record {
    ones = replied.ones ++ one ∷ [];
    are = sections_more job steps replied.ones c sofar one whole replied.are follows of;
    answers = answers_more job steps replied.ones rs c now one h replied.answers answered;
  }
