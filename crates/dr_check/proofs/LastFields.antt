-- Last lines, and their fields.
use Rattle.std.specs.{Fmt.decimal, Prelude.{None, Some}}
use Rattle.std.proofs.Common.{◌≡◌, inl, inr, sym, ap, ◌∙◌, ℕ, ◌<◌, ◌^◌, arith, List, [], ◌∷◌, ◌++◌, codes}
use Rattle.dr_text.specs.{Report.last_text, declared.last.Last.Last}
use Rattle.dr_text.specs.declared.last.Last.TheVariants as lasts
use Rattle.dr_check.specs.{Fields.fields, Lasts.{IsLastLine, TellsOfLogs}, Lines.LastFits}
use Rattle.dr_check.proofs.Splitting.{last_field, next_field, plain_decimal}

pub disk_fields : (member : ℕ) → member < 16 → fields (last_text (lasts.DiskFault member))
    ≡ codes "fault:" ∷ codes "disk" ∷ codes "of" ∷ codes "member" ∷ decimal member ∷ [] ∷ []
disk_fields member m = ap (λ fs. codes "fault:" ∷ codes "disk" ∷ codes "of" ∷ codes "member" ∷ fs)
    (last_field (decimal member) [] (plain_decimal member (omega (arith, m))))

pub full_fields : (member : ℕ) → member < 16 → fields (last_text (lasts.LogFull member))
    ≡ codes "fault:" ∷ codes "log" ∷ codes "full" ∷ codes "of" ∷ codes "member" ∷ decimal member ∷ [] ∷ []
full_fields member m = ap (λ fs. codes "fault:" ∷ codes "log" ∷ codes "full" ∷ codes "of" ∷ codes "member" ∷ fs)
    (last_field (decimal member) [] (plain_decimal member (omega (arith, m))))

pub damaged_fields : (member at : ℕ) → member < 16 → at < 2 ^ 64 → fields (last_text (lasts.Damaged member at))
    ≡ codes "refused:" ∷ codes "damaged" ∷ codes "log" ∷ codes "of" ∷ codes "member" ∷ decimal member
    ∷ codes "at" ∷ decimal at ∷ [] ∷ []
damaged_fields member at m a =
    ap (λ fs. codes "refused:" ∷ codes "damaged" ∷ codes "log" ∷ codes "of" ∷ codes "member" ∷ fs)
    (next_field (decimal member) (codes "at " ++ (decimal at ++ 10 ∷ [])) (plain_decimal member (omega (arith, m)))
    ∙ ap (λ fs. decimal member ∷ codes "at" ∷ fs) (last_field (decimal at) [] (plain_decimal at a)))

pub foreign_fields : (member place : ℕ) → member < 16 → place < 2 ^ 64
    → fields (last_text (lasts.Foreign member place))
    ≡ codes "refused:" ∷ codes "foreign" ∷ codes "log" ∷ codes "of" ∷ codes "member" ∷ decimal member
    ∷ codes "at" ∷ codes "entry" ∷ decimal place ∷ [] ∷ []
foreign_fields member place m p =
    ap (λ fs. codes "refused:" ∷ codes "foreign" ∷ codes "log" ∷ codes "of" ∷ codes "member" ∷ fs)
    (next_field (decimal member) (codes "at entry " ++ (decimal place ++ 10 ∷ []))
    (plain_decimal member (omega (arith, m))) ∙ ap (λ fs. decimal member ∷ codes "at" ∷ codes "entry" ∷ fs)
    (last_field (decimal place) [] (plain_decimal place p)))

pub disagree_fields : (a b place : ℕ) → a < 16 → b < 16 → place < 2 ^ 64
    → fields (last_text (lasts.Disagree a b place))
    ≡ codes "refused:" ∷ codes "logs" ∷ codes "of" ∷ codes "members" ∷ decimal a ∷ codes "and" ∷ decimal b
    ∷ codes "disagree" ∷ codes "at" ∷ codes "entry" ∷ decimal place ∷ [] ∷ []
disagree_fields a b place x y p = ap (λ fs. codes "refused:" ∷ codes "logs" ∷ codes "of" ∷ codes "members" ∷ fs)
    (next_field (decimal a)
    (codes "and " ++ (decimal b ++ (codes " disagree at entry " ++ (decimal place ++ 10 ∷ []))))
    (plain_decimal a (omega (arith, x))) ∙ ap (λ fs. decimal a ∷ codes "and" ∷ fs)
    (next_field (decimal b) (codes "disagree at entry " ++ (decimal place ++ 10 ∷ []))
    (plain_decimal b (omega (arith, y))) ∙ ap (λ fs. decimal b ∷ codes "disagree" ∷ codes "at" ∷ codes "entry" ∷ fs)
    (last_field (decimal place) [] (plain_decimal place p))))

pub roster_fields : (have need : ℕ) → have < 2 ^ 64 → need < 2 ^ 64
    → fields (last_text (lasts.NoQuorum None have need))
    ≡ codes "refused:" ∷ codes "quorum" ∷ codes "of" ∷ codes "roster" ∷ codes "has" ∷ decimal have
    ∷ codes "of" ∷ decimal need ∷ [] ∷ []
roster_fields have need h n =
    ap (λ fs. codes "refused:" ∷ codes "quorum" ∷ codes "of" ∷ codes "roster" ∷ codes "has" ∷ fs)
    (next_field (decimal have) (codes "of " ++ (decimal need ++ 10 ∷ [])) (plain_decimal have h)
    ∙ ap (λ fs. decimal have ∷ codes "of" ∷ fs) (last_field (decimal need) [] (plain_decimal need n)))

pub quorum_fields : (view have need : ℕ) → view < 2 ^ 8 → have < 2 ^ 64 → need < 2 ^ 64
    → fields (last_text (lasts.NoQuorum (Some view) have need))
    ≡ codes "refused:" ∷ codes "quorum" ∷ codes "of" ∷ codes "view" ∷ decimal view ∷ codes "has" ∷ decimal have
    ∷ codes "of" ∷ decimal need ∷ [] ∷ []
quorum_fields view have need v h n = ap (λ fs. codes "refused:" ∷ codes "quorum" ∷ codes "of" ∷ codes "view" ∷ fs)
    (next_field (decimal view) (codes "has " ++ (decimal have ++ (codes " of " ++ (decimal need ++ 10 ∷ []))))
    (plain_decimal view (omega (arith, v))) ∙ ap (λ fs. decimal view ∷ codes "has" ∷ fs)
    (next_field (decimal have) (codes "of " ++ (decimal need ++ 10 ∷ [])) (plain_decimal have h)
    ∙ ap (λ fs. decimal have ∷ codes "of" ∷ fs) (last_field (decimal need) [] (plain_decimal need n))))

-- what the tests find is a last line
pub last_of : (bytes : List ℕ) → IsLastLine bytes → (last : Last) × LastFits last × (bytes ≡ last_text last)
unfolding TellsOfLogs
last_of bytes (inl (inl is)) = (lasts.Done, tt, sym is)
last_of bytes (inl (inr (inl is))) = (lasts.AgesUsedUp, tt, sym is)
last_of bytes (inl (inr (inr (inl is)))) = (lasts.Unfinished, tt, sym is)
last_of bytes (inl (inr (inr (inr is)))) = (lasts.NoMajority, tt, sym is)
last_of bytes (inr (inl is)) = (lasts.DiskFault is.0, is.1, sym is.2)
last_of bytes (inr (inr (inl is))) = (lasts.LogFull is.0, is.1, sym is.2)
last_of bytes (inr (inr (inr (inl is)))) = (lasts.Damaged is.0 is.1, (is.2, is.3), sym is.4)
last_of bytes (inr (inr (inr (inr (inl is))))) = (lasts.Foreign is.0 is.1, (is.2, is.3), sym is.4)
last_of bytes (inr (inr (inr (inr (inr (inl is)))))) = (lasts.Disagree is.0 is.1 is.2, (is.3, is.4, is.5), sym is.6)
last_of bytes (inr (inr (inr (inr (inr (inr (inl is))))))) =
    (lasts.NoQuorum None is.0 is.1, (tt, is.2, is.3), sym is.4)
last_of bytes (inr (inr (inr (inr (inr (inr (inr is))))))) =
    (lasts.NoQuorum (Some is.0) is.1 is.2, (is.3, is.4, is.5), sym is.6)

-- and each last line is found
pub of_last : (bytes : List ℕ) (last : Last) → LastFits last → bytes ≡ last_text last → IsLastLine bytes
unfolding TellsOfLogs
of_last bytes lasts.Done fits is = inl (inl (sym is))
of_last bytes lasts.AgesUsedUp fits is = inl (inr (inl (sym is)))
of_last bytes lasts.Unfinished fits is = inl (inr (inr (inl (sym is))))
of_last bytes lasts.NoMajority fits is = inl (inr (inr (inr (sym is))))
of_last bytes (lasts.DiskFault member) fits is = inr (inl (member, fits, sym is))
of_last bytes (lasts.LogFull member) fits is = inr (inr (inl (member, fits, sym is)))
of_last bytes (lasts.Damaged member at) fits is = inr (inr (inr (inl (member, at, fits.0, fits.1, sym is))))
of_last bytes (lasts.Foreign member place) fits is =
    inr (inr (inr (inr (inl (member, place, fits.0, fits.1, sym is)))))
of_last bytes (lasts.Disagree a b place) fits is =
    inr (inr (inr (inr (inr (inl (a, b, place, fits.0, fits.1, fits.2, sym is))))))
of_last bytes (lasts.NoQuorum None have need) fits is =
    inr (inr (inr (inr (inr (inr (inl (have, need, fits.1, fits.2, sym is)))))))
of_last bytes (lasts.NoQuorum (Some view) have need) fits is =
    inr (inr (inr (inr (inr (inr (inr (view, have, need, fits.0, fits.1, fits.2, sym is)))))))
of_last bytes lasts.Usage fits is = absurd fits
of_last bytes lasts.TooLong fits is = absurd fits
of_last bytes lasts.NotJson fits is = absurd fits
of_last bytes (lasts.Rule rule path) fits is = absurd fits
of_last bytes lasts.SourceFault fits is = absurd fits
of_last bytes (lasts.NoShard n m) fits is = absurd fits
of_last bytes (lasts.ManyAges n) fits is = absurd fits
of_last bytes (lasts.Crosses n) fits is = absurd fits
of_last bytes lasts.NotCheck fits is = absurd fits
of_last bytes (lasts.NoReport n) fits is = absurd fits
of_last bytes lasts.Right fits is = absurd fits
of_last bytes (lasts.Wrong k n) fits is = absurd fits
