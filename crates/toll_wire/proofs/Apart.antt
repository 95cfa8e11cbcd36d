-- What an owner's request is told, and what it changes, depends on the owner's own rows: another owner's request leaves it as it is.
use Rattle.std.proofs.Common.{◌≡◌, true, false, not, ◌&&◌, ◌||◌, cond, is_some, Some, List, [], ◌∷◌, refl, sym, ap, subst, ◌∙◌}
use Rattle.toll_wire.proofs.Common.{false≢true, Bytes, same_bytes, house_name, PlaceOrder, CancelOrder, Release, Reject, by, History, part, acts, Verdict, Accepted, Repeated, Refused, verdict, grow, grown, IsLawful, Request, OwnerReply, ReplyForbidden, has_owner_key, IsReply, IsValidOwnerRequest, after_answer, after_reply, Content, Represents, By, Asks, Fails}
use Rattle.std.specs.List.{list_any}
use Rattle.std.specs.Option.{option_map}
use Rattle.toll_answers.proofs.OwnReplies.{after_reply-part, reply-both_ways}
use Rattle.toll_base.proofs.Texts.{same_bytes-exact}
use Rattle.toll_base.specs.Bytes.{bytes_cmp}
use Rattle.toll_base.specs.Changes.{after_changes}
use Rattle.toll_base.specs.Slice.{Slice, empty_slice, with_row}
use Rattle.toll_base.specs.SliceRules.{KeepsRules}
use Rattle.toll_base.specs.Table.{row_at}
use Rattle.toll_base.specs.Words.{is_some_where, where_so}
use Rattle.toll_base.specs.declared.decision.Change.{Change}
use Rattle.toll_base.specs.declared.decision.Change.TheVariants.{Owner, Put, Unit as UnitAdded}
use Rattle.toll_base.specs.declared.request.Request.TheVariants as request
use Rattle.toll_base.specs.declared.rows.OwnerRow.{OwnerRow}
use Rattle.toll_base.specs.declared.rows.UnitRow.{UnitRow}
use Rattle.toll_history.proofs.Grown.{tables-others}
use Rattle.toll_history.proofs.Own.{acts-part}
use Rattle.toll_history.proofs.OwnFacts.{tables-part}
use Rattle.toll_history.specs.Command.{Action}
use Rattle.toll_history.specs.History.{adds_owner, owner_key, owner_known}
use Rattle.toll_history.specs.Laws.{records_or_voids}
use Rattle.toll_history.specs.OwnChanges.{PutsOnly}
use Rattle.toll_history.specs.OwnerFacts.{IsRowsOf, facts_given}
use Rattle.toll_keep.specs.Content.{AllChangesFit, after_owners, after_units, content_after}
use Rattle.toll_desk.proofs.OwnerPlans.{key_known, lawful_after_reply, not_house_by}
use Rattle.toll_desk.proofs.SliceToContent.{SamePlant, leads_nowhere, owner_stays, same_grown, same_plant-refl}
use Rattle.toll_desk.specs.Plans.{ChangesLeadTo}
use Rattle.toll_desk.specs.Representing.{AreOwnersOf, AreUnitsOf}
use Rattle.toll_wire.specs.Held.{IsHeld}

-- ---- what a request makes of a history

-- it adds no owner and no unit
answer_adds_none : (o : Bytes) (H : History) (q : Request) → SamePlant H (after_answer o H q)
answer_adds_none o H (request.Place placing) = same_grown H o (PlaceOrder placing) refl
answer_adds_none o H (request.Cancel order) = same_grown H o (CancelOrder order) refl
answer_adds_none o H (request.Release lot) = same_grown H o (Release lot) refl
answer_adds_none o H (request.Reject lot) = same_grown H o (Reject lot) refl
answer_adds_none o H _ = same_plant-refl H

-- and leaves the tables of other owners
others_grown : (o p : Bytes) (H : History) (a : Action) → records_or_voids a ≡ false → same_bytes o p ≡ false → facts_given (grow H (by o a)) p ≡ facts_given H p
others_grown o p H a none other = by_verdict (verdict H (by o a))
  where
    by_verdict : (v : Verdict) → facts_given (grown v H (by o a)) p ≡ facts_given H p
    by_verdict Accepted = tables-others H o a none p other
    by_verdict Repeated = refl
    by_verdict (Refused why) = refl

others_answered : (o p : Bytes) (H : History) (q : Request) → same_bytes o p ≡ false → facts_given (after_answer o H q) p ≡ facts_given H p
others_answered o p H (request.Place placing) other = others_grown o p H (PlaceOrder placing) refl other
others_answered o p H (request.Cancel order) other = others_grown o p H (CancelOrder order) refl other
others_answered o p H (request.Release lot) other = others_grown o p H (Release lot) refl other
others_answered o p H (request.Reject lot) other = others_grown o p H (Reject lot) refl other
others_answered o p H _ other = refl

-- ---- changes of one owner's rows

-- leave the rows of others
pub rows_missed : (o : Bytes) (changes : List Change) (s : Slice) → PutsOnly o changes → same_bytes o s.owner ≡ false → after_changes changes s ≡ s
rows_missed o [] s puts other = refl
rows_missed o (Owner row ∷ changes) s puts other = absurd (false≢true puts.0)
rows_missed o (UnitAdded row ∷ changes) s puts other = absurd (false≢true puts.0)
rows_missed o (Put p row ∷ changes) s puts other =
    let elsewhere : same_bytes p s.owner ≡ false = ap (λ w. same_bytes w s.owner) (same_bytes-exact p o puts.0) ∙ other in
    ap (λ b. after_changes changes (cond b (with_row s row) s)) elsewhere ∙ rows_missed o changes s puts.1 other

-- and all owners and units
pub owners_kept : (o : Bytes) (changes : List Change) (rows : List OwnerRow) → PutsOnly o changes → after_owners changes rows ≡ rows
owners_kept o [] rows puts = refl
owners_kept o (Owner row ∷ changes) rows puts = absurd (false≢true puts.0)
owners_kept o (UnitAdded row ∷ changes) rows puts = absurd (false≢true puts.0)
owners_kept o (Put p row ∷ changes) rows puts = owners_kept o changes rows puts.1

units_kept : (o : Bytes) (changes : List Change) (rows : List UnitRow) → PutsOnly o changes → after_units changes rows ≡ rows
units_kept o [] rows puts = refl
units_kept o (Owner row ∷ changes) rows puts = absurd (false≢true puts.0)
units_kept o (UnitAdded row ∷ changes) rows puts = absurd (false≢true puts.0)
units_kept o (Put p row ∷ changes) rows puts = units_kept o changes rows puts.1

-- and fit each content that has the owners and the rows of this owner
fits_alike : (o : Bytes) (changes : List Change) (c d : Content) → c.owners ≡ d.owners → c.rows o ≡ d.rows o → PutsOnly o changes → AllChangesFit c changes → AllChangesFit d changes
fits_alike o [] c d owners rows puts fits = tt
fits_alike o (Owner row ∷ changes) c d owners rows puts fits = absurd (false≢true puts.0)
fits_alike o (UnitAdded row ∷ changes) c d owners rows puts fits = absurd (false≢true puts.0)
fits_alike o (Put p row ∷ changes) c d owners rows puts fits =
    let here : c.rows p ≡ d.rows p = subst (λ w. c.rows w ≡ d.rows w) (sym (same_bytes-exact p o puts.0)) rows in (
      (
        subst (λ (all : List OwnerRow). (same_bytes p house_name || is_some (row_at bytes_cmp (λ r. r.owner) all p)) ≡ true) owners fits.0.0,
        subst (λ s. KeepsRules (with_row s row)) here fits.0.1,
      ),
      fits_alike o changes (content_after (Put p row ∷ []) c) (content_after (Put p row ∷ []) d) owners (ap (after_changes (Put p row ∷ [])) rows) puts.1 fits.1,
    )

-- ---- over histories that have the same part for an owner

module _ (H G : History) (lawful : IsLawful H) (lawful' : IsLawful G) (o : Bytes) (parts : part o G ≡ part o H) where
  acts_alike : acts o G ≡ acts o H
  acts_alike = sym (acts-part o G) ∙ ap (acts o) parts ∙ acts-part o H

  key_alike : (key : Bytes) → has_owner_key o key G ≡ has_owner_key o key H
  key_alike key = ap (λ own. not (same_bytes o house_name) && is_some_where (same_bytes key) (owner_key own)) acts_alike

  known_alike : owner_known G o ≡ owner_known H o
  known_alike = ap (λ own. same_bytes o house_name || list_any adds_owner own) acts_alike

  reply_alike : same_bytes o house_name ≡ false → (key : Bytes) (q : Request) (r : OwnerReply) → IsReply o key H q r → IsReply o key G q r
  reply_alike not_house key q r reply =
      (reply-both_ways o not_house G lawful' key q r).0 (subst (λ F. IsReply o key F q r) (sym parts) ((reply-both_ways o not_house H lawful key q r).1 reply))

  -- what is forbidden over the one is forbidden over the other
  forbidden_alike : (key : Bytes) (q : Request) (r : OwnerReply) → has_owner_key o key H ≡ false → has_owner_key o key G ≡ false → IsReply o key H q r → IsReply o key G q r
  unfolding IsReply
  forbidden_alike key q r wrong wrong' reply = let forbidden : r ≡ ReplyForbidden = rw wrong at reply in rw wrong' forbidden

  tables_alike : same_bytes o house_name ≡ false → (key : Bytes) (q : Request) → IsValidOwnerRequest q → facts_given (after_reply o key H q) o ≡ facts_given (after_reply o key G q) o
  tables_alike not_house key q valid =
      let same : part o (after_reply o key H q) ≡ part o (after_reply o key G q) =
      sym (after_reply-part o not_house H lawful key q) ∙ ap (λ F. after_reply o key F q) (sym parts) ∙ after_reply-part o not_house G lawful' key q in
      sym (tables-part o (after_reply o key H q) (lawful_after_reply o key H q lawful valid) not_house) ∙ ap (λ F. facts_given F o) same
      ∙ tables-part o (after_reply o key G q) (lawful_after_reply o key G q lawful' valid) not_house

right_grows : (o key : Bytes) (H : History) (q : Request) → has_owner_key o key H ≡ true → after_reply o key H q ≡ after_answer o H q
unfolding after_reply
right_grows o key H q right = rw right refl

wrong_stays : (o key : Bytes) (H : History) (q : Request) → has_owner_key o key H ≡ false → after_reply o key H q ≡ H
unfolding after_reply
wrong_stays o key H q wrong = rw wrong refl

-- ---- contents that have the same owners and the same rows of an owner

module _ (c d : Content) (H G : History) (stands : Represents c H) (stands' : Represents d G) (lawful : IsLawful H) (lawful' : IsLawful G)
    (owners : c.owners ≡ d.owners) where
  module _ (o : Bytes) (parts : part o G ≡ part o H) (rows : c.rows o ≡ d.rows o) where
    module _ (key : Bytes) (q : Request) (valid : IsValidOwnerRequest q) (right : has_owner_key o key H ≡ true) (changes : List Change) (puts : PutsOnly o changes)
        (leads : ChangesLeadTo c changes (after_reply o key H q)) where
      abbrev grown_there : History
      grown_there = after_reply o key G q

      still_right : has_owner_key o key G ≡ true
      still_right = key_alike H G lawful lawful' o parts key ∙ right

      plant_here : SamePlant H (after_reply o key H q)
      plant_here = subst (SamePlant H) (sym (right_grows o key H q right)) (answer_adds_none o H q)

      plant_there : SamePlant G grown_there
      plant_there = subst (SamePlant G) (sym (right_grows o key G q still_right)) (answer_adds_none o G q)

      known_here : owner_known H o ≡ true
      known_here = key_known c H o key stands right

      own_rows : IsRowsOf grown_there (after_changes changes (d.rows o))
      own_rows =
          let s : Slice = after_changes changes (c.rows o) in
          let named : s.owner ≡ o = owner_stays changes (c.rows o) ∙ stands.own o in
          let here : IsRowsOf (after_reply o key H q) s = leads.stands.known o (plant_here.known o ∙ known_here) in
          let same = tables_alike H G lawful lawful' o parts (not_house_by H o key right) key q valid in
          subst (λ rows. IsRowsOf grown_there (after_changes changes rows)) rows
          (here ∙ ap (facts_given (after_reply o key H q)) named ∙ same ∙ ap (facts_given grown_there) (sym named))

      missed : (p : Bytes) → same_bytes o p ≡ false → after_changes changes (d.rows p) ≡ d.rows p
      missed p other = rows_missed o changes (d.rows p) puts (ap (same_bytes o) (stands'.own p) ∙ other)

      other_rows : (p : Bytes) → same_bytes o p ≡ false → owner_known grown_there p ≡ true → IsRowsOf grown_there (d.rows p)
      other_rows p other there =
          stands'.known p (sym (plant_there.known p) ∙ there)
          ∙ sym (ap (λ F. facts_given F (d.rows p).owner) (right_grows o key G q still_right) ∙ others_answered o (d.rows p).owner G q (ap (same_bytes o) (stands'.own p) ∙ other))

      known_rows : (p : Bytes) → owner_known grown_there p ≡ true → IsRowsOf grown_there (after_changes changes (d.rows p))
      known_rows p there =
          elim (same_bytes o p) as (λ b. same_bytes o p ≡ b → IsRowsOf grown_there (after_changes changes (d.rows p))) [
            | true ↦ λ is. subst (λ w. IsRowsOf grown_there (after_changes changes (d.rows w))) (same_bytes-exact o p is) own_rows
            | false ↦ λ other. subst (IsRowsOf grown_there) (sym (missed p other)) (other_rows p other there)
          ] refl

      unknown_rows : (p : Bytes) → owner_known grown_there p ≡ false → after_changes changes (d.rows p) ≡ empty_slice p
      unknown_rows p gone =
          elim (same_bytes o p) as (λ b. same_bytes o p ≡ b → after_changes changes (d.rows p) ≡ empty_slice p) [
            | true ↦ λ is. absurd (false≢true (sym gone ∙ ap (owner_known grown_there) (sym (same_bytes-exact o p is)) ∙ plant_there.known o ∙ known_alike H G lawful lawful' o parts ∙ known_here))
            | false ↦ λ other. missed p other ∙ stands'.unknown p (sym (plant_there.known p) ∙ gone)
          ] refl

      -- the changes that lead on from the one lead on from the other
      pub leads_alike : ChangesLeadTo d changes grown_there
      leads_alike = record {
        stands = record {
          owners = subst (AreOwnersOf grown_there) (sym (owners_kept o changes d.owners puts)) (record {
            ordered = stands'.owners.ordered;
            each = λ p. stands'.owners.each p ∙ ap (option_map _) (sym (plant_there.key p));
            all = stands'.owners.all ∙ sym plant_there.owners;
          });
          units = subst (AreUnitsOf grown_there) (sym (units_kept o changes d.units puts)) (record {
            ordered = stands'.units.ordered;
            each = λ unit. stands'.units.each unit ∙ ap (λ b. where_so {X = UnitRow} b (record { unit = unit })) (sym (plant_there.unit unit));
            all = stands'.units.all ∙ sym plant_there.units;
          });
          own = λ p. owner_stays changes (d.rows p) ∙ stands'.own p;
          known = known_rows;
          unknown = unknown_rows;
        };
        fits = fits_alike o changes c d owners rows puts leads.fits;
      }

    -- ---- what is held back

    module _ (key : Bytes) (q : Request) (valid : IsValidOwnerRequest q) (text : Bytes) (changes : List Change) (held : IsHeld c H (By o (Some key) (Asks q)) text changes) where
      asked_right : has_owner_key o key H ≡ true → IsHeld d G (By o (Some key) (Asks q)) text changes
      asked_right right =
          let not_house = not_house_by H o key right in
          let puts : PutsOnly o changes = rw right at held.puts in
          let (r, reply, is) = held.told in
          record {
            told = (r, reply_alike H G lawful lawful' o parts not_house key q r reply, is);
            leads = leads_alike key q valid right changes puts held.leads;
            puts = rw (key_alike H G lawful lawful' o parts key ∙ right) puts;
          }

      asked_wrong : has_owner_key o key H ≡ false → IsHeld d G (By o (Some key) (Asks q)) text changes
      asked_wrong wrong =
          let wrong' = key_alike H G lawful lawful' o parts key ∙ wrong in
          let none : changes ≡ [] = rw wrong at held.puts in
          let (r, reply, is) = held.told in
          record {
            told = (r, forbidden_alike H G lawful lawful' o parts key q r wrong wrong' reply, is);
            leads = subst (λ changes. ChangesLeadTo d changes (after_reply o key G q)) (sym none) (subst (ChangesLeadTo d []) (sym (wrong_stays o key G q wrong')) (leads_nowhere d G stands'));
            puts = rw wrong' none;
          }

      pub asked_alike : IsHeld d G (By o (Some key) (Asks q)) text changes
      asked_alike = elim (has_owner_key o key H) as (λ b. has_owner_key o key H ≡ b → IsHeld d G (By o (Some key) (Asks q)) text changes) [ true ↦ asked_right | false ↦ asked_wrong ] refl

    pub failed_alike : (key reported text : Bytes) (changes : List Change) → IsHeld c H (By o (Some key) (Fails reported)) text changes → IsHeld d G (By o (Some key) (Fails reported)) text changes
    failed_alike key reported text changes held =
        let (b, admits, is) = held.told in
        record {
          told = (b, admits ∙ sym (key_alike H G lawful lawful' o parts key), is);
          leads = subst (λ changes. ChangesLeadTo d changes G) (sym held.puts) (leads_nowhere d G stands');
          puts = held.puts;
        }
