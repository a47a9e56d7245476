-- Calls made one after another: what holds on the way. Each call goes on from the run before it by what that call promises.
use Rattle.std.proofs.Common.{◌≡◌, ℕ, ◌+◌, ◌<◌, List, [], ◌∷◌, ◌++◌, map, length, get_or, drop, Some, None, Ok, Err, sym, refl, ap, ◌∙◌, subst, ap₂, append_assoc, append-nil}
use Rattle.std.proofs.lemmas.List.{drop_more}
use Rattle.field.specs.Fields.{Arithmetic, FieldLaws}
use Rattle.order.specs.Orders.{Compare, OrderLaws}
use Rattle.run.specs.Calls.{hear}
use Rattle.run.specs.Hears.{Goes}
use Rattle.run.specs.Models.{Model, fresh, Call as Request}
use Rattle.run.specs.Runs.{model_of, Laws}
use Rattle.run.proofs.RunLaws as run_laws
use Rattle.calls.specs.Sequences.{Reply, request, replied, spoken, left_by, requests, answers, left, Sequence}
use Rattle.calls.specs.declared.call.Call.{Call}
use Rattle.calls.specs.declared.call.Call.TheVariants.{Open as OpenCall}

reply_again : (r : Reply) (after : List ℕ) → replied (spoken r after) ≡ r
reply_again (Ok None) after = refl
reply_again (Ok (Some number)) after = refl
reply_again (Err e) after = refl

module _ (k : Arithmetic) (cmp : Compare) (calls : List Call) (table : List ℕ) where
  -- the calls of `past` are made, m is held, `result` is the result table, and the calls of `rest` are to come
  pub record Underway (rest : List Call) (m : Model) (result : List ℕ) (replies : List Reply) : Type 0 where
    pub past : List Request
    pub leads : model_of k cmp past ≡ m
    pub laws : Laws k cmp past
    pub to_come : requests k cmp (fresh 1) calls table ≡ past ++ requests k cmp m rest result
    pub said : map replied (answers k cmp (fresh 1) calls table) ≡ replies ++ map replied (answers k cmp m rest result)
    pub written : left k cmp (fresh 1) calls table ≡ left k cmp m rest result

  pub begun : FieldLaws k → ((n : ℕ) → OrderLaws n cmp) → Underway calls (fresh 1) table []
  begun F O = record { past = []; leads = refl; laws = run_laws.laws F O []; to_come = refl; said = refl; written = refl }

  pub ended : (rest : List Call) (m : Model) (result : List ℕ) (replies : List Reply) → rest ≡ [] → Underway rest m result replies → Sequence k cmp calls table replies result
  ended rest m result replies e u = record {
    answered = sym (u.said ∙ ap (λ r. replies ++ map replied (answers k cmp m r result)) e ∙ append-nil replies);
    written = sym (u.written ∙ ap (λ r. left k cmp m r result) e);
    laws = subst (Laws k cmp) (sym (u.to_come ∙ ap (λ r. u.past ++ requests k cmp m r result) e ∙ append-nil u.past)) u.laws;
  }

  -- call number i is made; OpenCall 0 stands for a call that is not there
  pub gone_on : (i : ℕ) (m m' : Model) (result result' : List ℕ) (replies : List Reply) (r : Reply)
      → (spoken r result', m') ≡ hear k cmp m (request (get_or calls i (OpenCall 0)) result)
      → ((past : List Request) → model_of k cmp past ≡ m → Goes k cmp past (request (get_or calls i (OpenCall 0)) result) (spoken r result') m') → result' ≡ left_by (spoken r result') result
      → i < length calls → Underway (drop i calls) m result replies → Underway (drop (i + 1) calls) m' result' (replies ++ (r ∷ []))
  gone_on i m m' result result' replies r heard runs after within u =
      let rest = drop (i + 1) calls in
      let c = get_or calls i (OpenCall 0) in
      let is : drop i calls ≡ c ∷ rest = drop_more calls i (OpenCall 0) within in
      let q = request c result in
      let goes = runs u.past u.leads in
      let said = ap (λ x. x.0) heard in
      let holds = ap (λ x. x.1) heard in
      let table_is : left_by (hear k cmp m q).0 result ≡ result' = ap (λ a. left_by a result) (sym said) ∙ sym after in
      record {
        past = u.past ++ (q ∷ []);
        leads = goes.leads;
        laws = goes.laws;
        to_come = u.to_come ∙ ap (λ x. u.past ++ requests k cmp m x result) is
            ∙ ap₂ (λ n t. u.past ++ (q ∷ requests k cmp n rest t)) (sym holds) table_is ∙ sym (append_assoc u.past (q ∷ []) (requests k cmp m' rest result'));
        said = u.said ∙ ap (λ x. replies ++ map replied (answers k cmp m x result)) is
            ∙ ap₂ (λ n t. replies ++ (replied (hear k cmp m q).0 ∷ map replied (answers k cmp n rest t))) (sym holds) table_is
            ∙ ap (λ x. replies ++ (x ∷ map replied (answers k cmp m' rest result'))) (ap replied (sym said) ∙ reply_again r result')
            ∙ sym (append_assoc replies (r ∷ []) (map replied (answers k cmp m' rest result')));
        written = u.written ∙ ap (λ x. left k cmp m x result) is ∙ ap₂ (λ n t. left k cmp n rest t) (sym holds) table_is;
      }
