-- What a state knows of the walk: whatever comes, it goes on from the state's place. A byte more keeps it so. Assumes nothing.
use Rattle.std.specs.Prelude.{Err, Ok}
use Prim.Native.Nat.{ℕ, ◌+◌, ◌-◌, ◌≤◌, ◌<◌}
use mathlib.Core.Path.{◌≡◌, refl, sym, ap, ◌∙◌}
use mathlib.Core.List.{List, [], ◌∷◌, ◌++◌, append-nil, append_assoc}
use mathlib.Core.Bool.{Bool, true, false}
use mathlib.Core.Logic.{by_cases, ⊎_elim}
use native.Mathlib.Omega.{arith}
use native.Mathlib.Decide.{dec_lt}
use lib.ListN.{length, get_or, length-append, get_or-append}
use Rattle.steps.specs.Told.{ToldAt, found, nothing, refused}
use Rattle.labels.specs.Label.{key_at, key_start}
use Rattle.lengths.specs.declared.Field.{Field}
use Rattle.lengths.specs.declared.NoLength.TheVariants.{Invalid}
use Rattle.klv.specs.Item.{klv, past, Item}
use Rattle.walk.specs.declared.Turn.TheVariants.{Stop}
use Rattle.walk.specs.Rules.{rules}
use Rattle.walk.proofs.Laws.{rule_end, rule_cut, rule_none, rule_record, rule_wait, rule_late}
use Rattle.records.specs.Records.{arriving_list_by}
use Rattle.records.proofs.Lists.{Onward}
use Rattle.certain.proofs.Held.{arr_stop}
use Rattle.fed_states.specs.declared.State.{State}
use Rattle.fed_states.specs.State.{opened, sought, gone_on, length_of, sound_of}
use Rattle.fed_states.proofs.Laws.{come, sound_within}
use Rattle.steps.specs.Passed.{Passed}
use Rattle.fed_bytes.specs.Eat.{seek_of, labelled, behind, eat_of}
use Rattle.fed_bytes.specs.Feed.{after}
use Rattle.fed_bytes.proofs.Laws.{eq_or, seek_next, seek_first, seek_none, seek_most, Turned, cut, none, whole, waits, late, Resting, for_length, for_value, Ate, seeks, labels, turns, ate}
use Rattle.fed_bytes.proofs.Keys.{key_differs, later_byte}
use Rattle.fed_lists.specs.Run.{saying, records}
use Rattle.fed_lists.proofs.Goes.{Which, arrives, list_of, limit_of, limit_most, is-arriving, l_record, l_goes, l_skips}
use Rattle.fed_lists.proofs.Knows.{Knows, knows_more, key_known, label_known, length_known, none_known, length_back, none_back, cut_known, knows_label, knows_behind, knows_sought, knows_gone}

-- A byte moves the walk on by one

module _ (st : State) (a : List ℕ) (k : Knows st a) (rests : 17 ≤ st.have → Resting st) (b : ℕ) (more : st.at + st.have < length a) (is_b : get_or a (st.at + st.have) 0 ≡ b) where
  -- a length that is whole with this byte, or was before it
  was_whole : 16 ≤ st.have → (f : Field) → length_of (behind st b) ≡ Ok f → 16 + f.size ≤ st.have → length_of st ≡ Ok f
  was_whole h f l m = length_back st a k f (length_known (behind st b) a (knows_behind st a k b more is_b h) f l) m

  turned-place : (r : ToldAt State (Passed Item)) → 16 ≤ st.have → Turned (behind st b) r → (after r).at + (after r).have ≡ st.at + st.have + 1
  unfolding after
  turned-place r h (cut l) = omega arith
  turned-place r h (waits f l m n) = omega arith
  turned-place r h (none l) =
      by_cases (dec_lt st.have 17) (λ m. omega arith)
      (λ m. absurd (go (rests (omega arith)) (none_back st a k (none_known (behind st b) a (knows_behind st a k b more is_b h) l (omega arith)) (omega arith))))
    where
      go : Resting st → length_of st ≡ Err Invalid → ⊥
      go (for_length c) e = let z : ◌≡◌ {A = ℕ} 0 1 = cc in omega arith
      go (for_value f c m n) e = let z : ◌≡◌ {A = ℕ} 0 1 = cc in omega arith
  turned-place r h (whole f l m) =
      let c = come (behind st b) f l in
      by_cases (dec_lt st.have (16 + f.size)) (λ n. omega (arith, c.behind)) (λ n. go (rests (omega (arith, c.some))) (was_whole h f l (omega arith)))
    where
      go : Resting st → length_of st ≡ Ok f → st.at + 16 + f.size + f.value + 0 ≡ st.at + st.have + 1
      go (for_length c) e = absurd (let z : ◌≡◌ {A = ℕ} 0 1 = cc in omega arith)
      go (for_value g c x0 x1) e =
          let x : g.size ≡ f.size = cc in
          let y : g.value ≡ f.value = cc in
          omega (arith, (come st f e).behind)
  turned-place r h (late f l m n) =
      let c = come (behind st b) f l in
      by_cases (dec_lt st.have (16 + f.size)) (λ n. omega (arith, c.behind)) (λ n. absurd (go (rests (omega (arith, c.some))) (was_whole h f l (omega arith))))
    where
      go : Resting st → length_of st ≡ Ok f → ⊥
      go (for_length c) e = let z : ◌≡◌ {A = ℕ} 0 1 = cc in omega arith
      go (for_value g c x0 x1) e =
          let x : g.size ≡ f.size = cc in
          let y : g.value ≡ f.value = cc in
          omega arith

  pub eat_place : (after (eat_of st b)).at + (after (eat_of st b)).have ≡ st.at + st.have + 1
  unfolding after
  eat_place = go (eat_of st b) (ate st b)
    where
      go : (r : ToldAt State (Passed Item)) → Ate st b r → (after r).at + (after r).have ≡ st.at + st.have + 1
      go r (seeks h) = omega (arith, seek_most st.have b)
      go r (labels h m) = omega arith
      go r (turns _ h t) = turned-place r h t

-- `next` is where walking goes on after a record: from its value's start to its end

module _ (next : Item → ℕ) (on : Onward next) (most : (i : Item) → next i ≤ past i.klv) where
  abbrev list : Which → ℕ → List ℕ → ℕ → List Item
  list w limit a p = list_of next on w limit a p

  pub record Stands (limit : ℕ) (st : State) (a : List ℕ) (out : List Item) : Type 0 where
    pub same : st.limit ≡ limit
    pub alive : st.live ≡ true
    pub within : length a ≤ limit
    pub knows : Knows st a
    pub rests : 17 ≤ st.have → Resting st
    pub goes : (w : Which) (x : List ℕ) → length a + length x ≤ limit → list w limit (a ++ x) 0 ≡ out ++ list w limit (a ++ x) st.at

  pub stands_open : (limit : ℕ) (known : Bool) → Stands limit (opened limit known) [] []
  stands_open limit known =
      record {
        same = refl;
        alive = refl;
        within = omega arith;
        knows = knows_sought (opened limit known) [] 0 0 (omega arith) (omega arith) (λ i h. absurd (omega arith));
        rests = λ h. absurd (omega arith);
        goes = λ w x h. refl;
      }

  pub stands_sound : (limit : ℕ) (st : State) (a : List ℕ) (out : List Item) → Stands limit st a out → sound_of st ≡ true
  stands_sound limit st a out s = sound_within st s.alive (omega (arith, s.knows.count, s.within, s.same))

  -- more bytes change nothing
  pub stands_more : (limit : ℕ) (st : State) (a y : List ℕ) (out : List Item) → Stands limit st a out → length (a ++ y) ≤ limit → Stands limit st (a ++ y) out
  stands_more limit st a y out s h =
      record {
        same = s.same;
        alive = s.alive;
        within = h;
        knows = knows_more st a y s.knows;
        rests = s.rests;
        goes = λ w x m. rw (append_assoc a y x) (s.goes w (y ++ x) (rw (length-append y x) (omega (arith, length-append a y))));
      }

  -- So the list is the arriving list

  pub stopped : (limit : ℕ) (st : State) (a : List ℕ) (out : List Item) → Stands limit st a out → st.at + st.have ≡ length a → rules limit a (length a) st.at ≡ Stop
  stopped limit st a out s all = by_cases (dec_lt st.have 17) (λ h. rule_end limit a (length a) st.at (omega arith)) (λ h. go (omega arith) (s.rests (omega arith)))
    where
      go : 17 ≤ st.have → Resting st → rules limit a (length a) st.at ≡ Stop
      go h (for_length c) = rule_cut limit a (length a) st.at (omega arith) (key_known st a s.knows (omega arith)) (cut_known st a s.knows c all (omega arith))
      go h (for_value f c m n) =
          rule_wait limit a (length a) st.at (omega arith) (key_known st a s.knows (omega arith)) f (length_known st a s.knows f c) (omega arith) (omega (arith, s.same))

  pub stands_list : (limit : ℕ) (st : State) (a : List ℕ) (out : List Item) → Stands limit st a out → st.at + st.have ≡ length a → arriving_list_by next limit a 0 ≡ out
  stands_list limit st a out s all =
      let w = s.within in
      rw append-nil at (sym (is-arriving next on limit a 0) ∙ rw append-nil at (s.goes arrives [] (omega arith))
      ∙ ap (λ (l : List Item). out ++ l) (is-arriving next on limit a st.at ∙ arr_stop next on limit a st.at (stopped limit st a out s all)))

  -- a record sends the walk on to where `next` says
  unfoldable pub sent : ToldAt State (Passed Item) → State
  sent (found r s) = gone_on s (next r.it) s.label
  sent (nothing s) = s
  sent (refused n s) = s

  -- One byte more

  module _ (limit : ℕ) (st : State) (a : List ℕ) (out : List Item) (s : Stands limit st a out) (b : ℕ) (more : st.at + st.have < length a) (is_b : get_or a (st.at + st.have) 0 ≡ b) where
    abbrev k : Knows st a
    k = s.knows

    in-a : (x : List ℕ) (i : ℕ) → i < length a → get_or (a ++ x) i 0 ≡ get_or a i 0
    in-a x i h = get_or-append a x 0 i h

    -- the walk goes on from the state's place, and so from one to which it goes from there
    Goes_to : ℕ → Type 0
    Goes_to p = (w : Which) (x : List ℕ) → length a + length x ≤ limit → list w limit (a ++ x) st.at ≡ list w limit (a ++ x) p

    -- the same place, with the byte counted
    stays : (t : State) → t.limit ≡ limit → t.live ≡ true → t.at ≡ st.at → Knows t a → (17 ≤ t.have → Resting t) → Stands limit t a out
    stays t e v p n r = record { same = e; alive = v; within = s.within; knows = n; rests = r; goes = λ w x h. rw p (s.goes w x h) }

    -- another place, with m bytes of a key's start
    moves : (p m : ℕ) → p + m ≤ length a → m ≤ 4 → ((i : ℕ) → i < m → get_or a (p + i) 0 ≡ get_or key_start i 0) → Goes_to p → Stands limit (sought st p m) a out
    unfolding Goes_to
    moves p m h f e g =
        record {
          same = s.same;
          alive = s.alive;
          within = s.within;
          knows = knows_sought st a p m h f e;
          rests = λ n. absurd (omega arith);
          goes = λ w x n. s.goes w x n ∙ ap (λ (l : List Item). out ++ l) (g w x n);
        }

    -- in search of a key
    seeking : st.have < 4 → Stands limit (sought st (st.at + st.have + 1 - seek_of st.have b) (seek_of st.have b)) a out
    unfolding Goes_to
    seeking h = ⊎_elim same_key (λ n. ⊎_elim (first_byte n) (no_byte n) (eq_or b 0x06)) (eq_or b (get_or key_start st.have 0))
      where
        here : (x : List ℕ) → get_or (a ++ x) (st.at + st.have) 0 ≡ b
        here x = in-a x (st.at + st.have) more ∙ is_b

        same_key : b ≡ get_or key_start st.have 0 → Stands limit (sought st (st.at + st.have + 1 - seek_of st.have b) (seek_of st.have b)) a out
        same_key e =
            let z : st.at + st.have + 1 - (st.have + 1) ≡ st.at = omega arith in
            rw (seek_next st.have b e, z)
            (moves st.at (st.have + 1) (omega arith) (omega arith)
            (λ i m. by_cases (dec_lt i st.have) (λ j. k.starts i j (omega arith)) (λ j. let y : i ≡ st.have = omega arith in rw y (is_b ∙ e)))
            (λ w x m. refl))

        -- no key starts where the bytes so far began one
        no_start : (b ≡ get_or key_start st.have 0 → ⊥) → (x : List ℕ) → (j : ℕ) → j < st.have → key_at (a ++ x) (st.at + j) ≡ false
        no_start n x j m =
            by_cases (dec_lt 0 j)
            (λ p. key_differs (a ++ x) (st.at + j) 0 (omega arith)
            (λ e. let z : st.at + j + 0 ≡ st.at + j = omega arith in
            later_byte j p (omega arith) (sym (in-a x (st.at + j) (omega arith) ∙ k.starts j m (omega arith)) ∙ rw z at e)))
            (λ p. key_differs (a ++ x) (st.at + j) st.have h
            (λ e. let z : st.at + j + st.have ≡ st.at + st.have = omega arith in n (sym (here x) ∙ rw z at e)))

        first_byte : (b ≡ get_or key_start st.have 0 → ⊥) → b ≡ 0x06 → Stands limit (sought st (st.at + st.have + 1 - seek_of st.have b) (seek_of st.have b)) a out
        first_byte n e =
            let z : st.at + st.have + 1 - 1 ≡ st.at + st.have = omega arith in
            rw (seek_first st.have b n e, z)
            (moves (st.at + st.have) 1 (omega arith) (omega arith)
            (λ i m. let y : st.at + st.have + i ≡ st.at + st.have = omega arith in let w : i ≡ 0 = omega arith in rw y (is_b ∙ e ∙ rw w))
            (λ w x m. l_skips next on limit (a ++ x) w st.have st.at (no_start n x)))

        no_byte : (b ≡ get_or key_start st.have 0 → ⊥) → (b ≡ 0x06 → ⊥) → Stands limit (sought st (st.at + st.have + 1 - seek_of st.have b) (seek_of st.have b)) a out
        no_byte n o =
            let z : st.at + st.have + 1 - 0 ≡ st.at + (st.have + 1) = omega arith in
            rw (seek_none st.have b n o, z)
            (moves (st.at + (st.have + 1)) 0 (omega arith) (omega arith) (λ i m. absurd (omega arith))
            (λ w x m. l_skips next on limit (a ++ x) w (st.have + 1) st.at
            (λ j f. by_cases (dec_lt j st.have) (no_start n x j)
            (λ g. key_differs (a ++ x) (st.at + j) 0 (omega arith) (λ e. let y : st.at + j + 0 ≡ st.at + st.have = omega arith in o (sym (here x) ∙ rw y at e))))))

    -- behind the label

    module _ (full : 16 ≤ st.have) where
      abbrev t : State
      t = behind st b

      kt : Knows t a
      kt = knows_behind st a k b more is_b full

      has_key : (x : List ℕ) → key_at (a ++ x) st.at ≡ true
      has_key x = key_known t (a ++ x) (knows_more t a x kt) (omega arith)

      has_room : (x : List ℕ) → 17 ≤ length (a ++ x) - st.at
      has_room x = rw (length-append a x) (omega arith)

      -- a record
      records-at : (f : Field) → length_of t ≡ Ok f → f.value ≤ st.at + (st.have + 1) - (st.at + 16 + f.size) → (p : ℕ) → p ≡ next (record { klv = klv 16 st.at f; key = st.label })
          → Stands limit (gone_on st p st.label) a (out ++ (record { klv = klv 16 st.at f; key = st.label } ∷ []))
      records-at f l v p e =
          let i : Item = record { klv = klv 16 st.at f; key = st.label } in
          let c = come t f l in
          let u : p ≤ st.at + 16 + f.size + f.value = rw e (most i) in
          record {
            same = s.same;
            alive = s.alive;
            within = s.within;
            knows = knows_gone st a p st.label (omega (arith, c.behind));
            rests = λ n. absurd (omega arith);
            goes = λ w x n.
                let y = length-append a x in
                s.goes w x n
                ∙ ap (λ (m : List Item). out ++ m)
                (l_record next on limit (a ++ x) w st.at (klv 16 st.at f)
                (rule_record (limit_of w limit) (a ++ x) (length (a ++ x)) st.at (has_room x) (has_key x) f (length_known t (a ++ x) (knows_more t a x kt) f l) (omega (arith, c.behind)))
                ∙ ap (λ (j : List ℕ). record { klv = klv 16 st.at f; key = j } ∷ list w limit (a ++ x) (next (record { klv = klv 16 st.at f; key = j })))
                (label_known t (a ++ x) (knows_more t a x kt) (omega arith))
                ∙ ap (λ (q : ℕ). i ∷ list w limit (a ++ x) q) (sym e))
                ∙ sym (append_assoc out (i ∷ []) (list w limit (a ++ x) p));
          }

      behind-label : (r : ToldAt State (Passed Item)) → Turned t r → Stands limit (sent r) a (out ++ records (saying r))
      unfolding sent saying Goes_to
      behind-label r (cut l) = rw append-nil (stays t s.same s.alive refl kt (λ h. for_length l))
      behind-label r (waits f l m n) = rw append-nil (stays t s.same s.alive refl kt (λ h. for_value f l m n))
      behind-label r (none l) =
          rw append-nil
          (moves (st.at + 17) 0 (omega arith) (omega arith) (λ i h. absurd (omega arith))
          (λ w x h. l_goes next on limit (a ++ x) w st.at (st.at + 17)
          (rule_none (limit_of w limit) (a ++ x) (length (a ++ x)) st.at (has_room x) (has_key x) (none_known t (a ++ x) (knows_more t a x kt) l (omega arith)))))
      behind-label r (late f l m n) =
          let c = come t f l in
          rw append-nil
          (moves (st.at + 16 + f.size) 0 (omega (arith, c.behind)) (omega arith) (λ i h. absurd (omega arith))
          (λ w x h. let y = length-append a x in
          l_goes next on limit (a ++ x) w st.at (st.at + 16 + f.size)
          (rule_late (limit_of w limit) (a ++ x) (length (a ++ x)) st.at (has_room x) (has_key x) f (length_known t (a ++ x) (knows_more t a x kt) f l) (omega (arith, s.same)) (omega (arith, s.same, limit_most w limit)))))
      behind-label r (whole f l m) = records-at f l m (next (record { klv = klv 16 st.at f; key = st.label })) refl

    pub eat_stands : Stands limit (sent (eat_of st b)) a (out ++ records (saying (eat_of st b)))
    unfolding sent saying
    eat_stands = go (eat_of st b) (ate st b)
      where
        go : (r : ToldAt State (Passed Item)) → Ate st b r → Stands limit (sent r) a (out ++ records (saying r))
        go r (seeks h) = rw append-nil (seeking h)
        go r (labels h m) = rw append-nil (stays (labelled st b) s.same s.alive refl (knows_label st a k b more is_b h m) (λ n. absurd (omega arith)))
        go r (turns _ h t) = behind-label h r t
